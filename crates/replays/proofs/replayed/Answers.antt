-- `replays::replayed` meets its contract, answer by answer. Assumes nothing.
use mathlib.Core.Path.{sym, ◌∙◌}
use native.Mathlib.Omega.{arith}
use Rattle.outbox.proofs.View.{sound_facts}
use Rattle.peer_session.proofs.View.{Parts, parts}
use Rattle.replays.proofs.Connects.{nothing-unacked, kept_back, replays}
use Rattle.replays.proofs.replayed.Goals as goal

pub returns-then-s-eq0 : goal.returns-then-s-eq0
returns-then-s-eq0 c =
    λ e h k.
    nothing-unacked e c.args.time c.args.force c.args.s c.args.list.now c.requires.0 c.requires.1 c.requires.2 h k c.if-s-eq0.true

pub returns-then-too_soon : goal.returns-then-too_soon
returns-then-too_soon c =
    λ e h k.
    kept_back e c.args.time c.args.force c.args.s c.args.list.now c.requires.0 c.requires.1 c.requires.2 h k c.if-s-eq0.false (sym c.too_soon.ensures ∙ c.if-too_soon.true)

pub replay-n-requires : goal.replay-n-requires
replay-n-requires c =
    let p : Parts c.args.s = parts c.args.s c.requires.1 c.requires.2 in
    (p.outbox, omega (arith, c.requires.0, (sound_facts c.args.s.outbox p.outbox).few))

pub returns : goal.returns
returns c =
    λ e h k.
    replays e c.args.time c.args.force c.args.s c.args.list.now c.requires.0 c.requires.1 c.requires.2 h k c.if-s-eq0.false (sym c.too_soon.ensures ∙ c.if-too_soon.false) c.replay-n.new.list c.replay-n.result c.replay-n.ensures
