use Prim.Native.Nat.{◌-◌, ◌≤◌}
use native.Mathlib.Omega.{arith}
use mathlib.Core.Bool.{true}
use mathlib.Core.Path.{◌≡◌, sym, ◌∙◌}
use lib.ListN.{get_or}
use Rattle.queue.specs.View.{num_q, len_q, used_q, blank_q}
use Rattle.queue.specs.Sound.{admits_queued, sound_queued}
use Rattle.stores.proofs.Scans.{admitted-on, admitted_not, admitted-none}
use Rattle.queue.proofs.Sound.{admits-fits}
use Rattle.queue.proofs.sound_queued.Goals as goal

pub returns-then-not-admits_queued : goal.returns-then-not-admits_queued
unfolding sound_queued
returns-then-not-admits_queued c =
    sym (admitted_not num_q len_q (admits_queued c.args.p) (used_q c.args.q) c.loop-u.u-index _ blank_q c.loop-u-test.true (omega arith) c.loop-u.last c.loop-u.sum
    (sym c.admits_queued.ensures ∙ c.if-not-admits_queued.true)) ∙ c.loop-u.invariant.1

pub loop-u-preserved : goal.loop-u-preserved
loop-u-preserved c =
    let admits : admits_queued c.args.p c.loop-u.last c.loop-u.sum (get_or (used_q c.args.q) c.loop-u.u-index blank_q) ≡ true = sym c.admits_queued.ensures ∙ c.if-not-admits_queued.false in
    let room : (get_or (used_q c.args.q) c.loop-u.u-index blank_q).len ≤ c.args.p.bytes - c.loop-u.sum = (admits-fits c.args.p c.loop-u.last c.loop-u.sum (get_or (used_q c.args.q) c.loop-u.u-index blank_q) admits).room in (
      omega (arith, room),
      sym (admitted-on num_q len_q (admits_queued c.args.p) (used_q c.args.q) c.loop-u.u-index _ blank_q c.loop-u-test.true (omega arith) c.loop-u.last c.loop-u.sum admits) ∙ c.loop-u.invariant.1,
    )

pub returns : goal.returns
unfolding sound_queued
returns c = sym (admitted-none num_q len_q (admits_queued c.args.p) _ _ _ c.loop-u.last c.loop-u.sum c.loop-u-test.false) ∙ c.loop-u.invariant.1
