use Prim.Native.Nat.{◌-◌, ◌≤◌}
use native.Mathlib.Omega.{arith}
use mathlib.Core.Bool.{true}
use mathlib.Core.Path.{◌≡◌, sym, ◌∙◌}
use lib.ListN.{get_or}
use Rattle.stores.proofs.Scans.{admitted-on, admitted_not, admitted-none}
use Rattle.outbox.specs.View.{num_u, len_u, used_u, blank_u}
use Rattle.outbox.specs.Sound.{admits_unacked, sound_unacked}
use Rattle.outbox.proofs.Sounds.{admits_facts}
use Rattle.outbox.proofs.sound_unacked.Goals as goal

pub returns-then-not-admits_unacked : goal.returns-then-not-admits_unacked
unfolding sound_unacked
returns-then-not-admits_unacked c =
    sym (admitted_not num_u len_u (admits_unacked c.args.o.next) (used_u c.args.o) c.loop-u.u-index _ blank_u c.loop-u-test.true (omega arith) c.loop-u.last c.loop-u.sum
    (sym c.admits_unacked.ensures ∙ c.if-not-admits_unacked.true)) ∙ c.loop-u.invariant.1

pub loop-u-preserved : goal.loop-u-preserved
loop-u-preserved c =
    let admits : admits_unacked c.args.o.next c.loop-u.last c.loop-u.sum (get_or (used_u c.args.o) c.loop-u.u-index blank_u) ≡ true = sym c.admits_unacked.ensures ∙ c.if-not-admits_unacked.false in
    let room : (get_or (used_u c.args.o) c.loop-u.u-index blank_u).len ≤ 65536 - c.loop-u.sum = (admits_facts c.args.o.next c.loop-u.last c.loop-u.sum (get_or (used_u c.args.o) c.loop-u.u-index blank_u) admits).room in (
      omega (arith, room),
      rw c.from-last.ensures (sym (admitted-on num_u len_u (admits_unacked c.args.o.next) (used_u c.args.o) c.loop-u.u-index _ blank_u c.loop-u-test.true (omega arith) c.loop-u.last c.loop-u.sum admits) ∙ c.loop-u.invariant.1),
    )

pub returns : goal.returns
unfolding sound_unacked
returns c = sym (admitted-none num_u len_u (admits_unacked c.args.o.next) _ _ _ c.loop-u.last c.loop-u.sum c.loop-u-test.false) ∙ c.loop-u.invariant.1
