use Prim.Native.Nat.{◌<◌}
use native.Mathlib.Omega.{arith}
use mathlib.Core.Path.{refl}
use lib.ListN.{get_or, length-take}
use lib.Seq.{get_or-take}
use Rattle.rules.specs.Replay.{not_pending}
use Rattle.outbox.specs.View.{blank_u}
use Rattle.outbox.specs.Records.{not_pending_u}
use Rattle.outbox.proofs.View.{sound_facts}
use Rattle.outbox.proofs.Listings.{listing_none, listing-next}
use Rattle.outbox.proofs.Commits.{replayed}
use Rattle.outbox.proofs.replay.Goals as goal

pub loop-u-init : goal.loop-u-init
loop-u-init c = listing_none not_pending c.args.o c.args.list.now c.args.n (sound_facts c.args.o c.requires.0) (omega arith) c.requires.1

pub shared_ref_as_front-u-items : goal.shared_ref_as_front-u-items
shared_ref_as_front-u-items c = (sound_facts c.args.o c.requires.0).few

pub loop-u-preserved : goal.loop-u-preserved
loop-u-preserved c =
    let h : c.loop-u.u-index < c.args.o.count = omega (arith, simp length-take at c.loop-u-test.true) in
    let u = get_or c.args.o.records c.loop-u.u-index blank_u in
    let e = rw (get_or-take c.args.o.count c.args.o.records c.loop-u.u-index blank_u h) at c.send_if-events.ensures in
    rw (get_or-take c.args.o.count c.args.o.records c.loop-u.u-index blank_u h)
    (listing-next c.loop-u.invariant h not_pending_u (λ v b. refl) u refl (not_pending_u u) refl c.send_if-events.new.list c.send_if-events.result
    c.send_if-events.auto.list e)

pub returns : goal.returns
returns c = replayed c.loop-u.invariant (omega (arith, simp length-take at c.loop-u-test.false))
