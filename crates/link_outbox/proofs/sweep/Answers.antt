use mathlib.Core.Path.{refl, ap, ◌∙◌}
use Prim.Native.Nat.{ℕ, ◌+◌}
use native.Mathlib.Omega.{arith}
use Rattle.link_outbox.proofs.Sweeps.{counted, sweeps_none, body-within, turn, dropped}
use Rattle.link_outbox.proofs.sweep.Goals as goal

pub loop-i-init : goal.loop-i-init
loop-i-init c =
    (refl, c.requires.few, omega arith, sweeps_none c.args.ack c.args.words.now c.args.halves.now c.args.bytes.now c.args.store.now c.requires (omega arith) (omega arith))

pub lower_if-end-requires : goal.lower_if-end-requires
lower_if-end-requires c = (c.loop-i.invariant.3.turns.sweeping.down, omega (arith, body-within c.loop-i.invariant.3 c.loop-i-test.true))

pub loop-i-preserved : goal.loop-i-preserved
loop-i-preserved c =
    let l = c.loop-i in
    let g = turn l.invariant.3 c.loop-i-test.true c.keeps-stays.result c.keeps-stays.ensures _ refl c.lower_if-end.new.store c.lower_if-end.result c.lower_if-end.ensures c.lower_if-end.auto.store _ (ap (λ (n : ℕ). c.loop-i.k + n) c.from-k.ensures ∙ counted _ _) _ _ refl refl in
    (refl, l.invariant.1, g.turns.sweeping.order, g)

pub returns : goal.returns
returns c =
    let l = c.loop-i in
    dropped c.args.ack c.args.words.now c.args.halves.now c.args.bytes.now c.args.store.now c.requires (omega arith) l.halves l.bytes l.store l.k l.i l.to l.from l.invariant.3 c.loop-i-test.false c.clear.new.store c.clear.ensures
