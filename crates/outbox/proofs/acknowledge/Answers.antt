use mathlib.Core.Path.{refl, sym, subst}
use Prim.Native.Nat.{ℕ, ◌+◌, ◌≤◌}
use lib.ListN.{length, get_or}
use Rattle.rules.specs.Lists.{kept}
use Rattle.rules.specs.Acks.{survives}
use Rattle.outbox.specs.View.{blank_u, unacked_of}
use Rattle.outbox.specs.Steps.{Left}
use Rattle.outbox.proofs.Sweeps.{reach, swept, counted, turned, starts, finished}
use borrow.Author.Rules.{rules}
use Rattle.outbox.proofs.acknowledge.Goals as goal

pub loop-i-init : goal.loop-i-init
loop-i-init c = (refl, starts c.args.ack c.args.o c.args.store.now c.requires)

pub lower_if-to-requires : goal.lower_if-to-requires
lower_if-to-requires c = let reaches : let l = c.loop-i in l.from + (get_or l.r.records l.i blank_u).len ≤ length l.store = let l = c.loop-i in reach c.args.ack (record { records = l.r.records; kept = l.k; next = l.i; to = l.to; from = l.from }) c.args.o.count l.store l.invariant.1.sweeping c.loop-i-test.true in (c.loop-i.invariant.1.sweeping.down, reaches)

pub loop-i-preserved : goal.loop-i-preserved
loop-i-preserved c = (c.loop-i.invariant.0, turned c.loop-i.invariant.1 (swept c.args.ack (record { records = c.loop-i.r.records; kept = c.loop-i.k; next = c.loop-i.i; to = c.loop-i.to; from = c.loop-i.from }) c.args.o.count c.loop-i.store c.loop-i.invariant.1.sweeping c.loop-i-test.true c.keeps-stays.result (sym c.keeps-stays.ensures) c.lower_if-to.ensures.store c.lower_if-to.ensures.end (counted _ _ c.from-k.ensures)) c.lower_if-to.auto.store)

pub returns : goal.returns
returns c = subst (λ (x : ℕ). Left c.args.o c.args.store.now (kept (survives c.args.ack) (unacked_of c.args.o c.args.store.now)) (record { next = x; records = c.loop-i.r.records; count = c.loop-i.k }) c.clear.new.store) (sym c.loop-i.invariant.0) (finished c.args.ack c.args.o c.args.store.now c.requires (record { records = c.loop-i.r.records; kept = c.loop-i.k; next = c.loop-i.i; to = c.loop-i.to; from = c.loop-i.from }) c.loop-i.store c.loop-i.invariant.1 (search rules) c.clear.new.store c.clear.ensures)
