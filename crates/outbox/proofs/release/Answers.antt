use native.Mathlib.Omega.{arith}
use mathlib.Core.Path.{◌≡◌, refl, ap, ◌∙◌}
use lib.ListN.{length, get_or}
use Rattle.rules.specs.Commits as R
use Rattle.outbox.specs.View.{blank_u}
use Rattle.outbox.specs.Records.{releases_u, released_u}
use Rattle.outbox.proofs.View.{SoundU, sound_facts}
use Rattle.outbox.proofs.Flags.{flagging_none, flagging_at, flagging_more, release-flags}
use Rattle.outbox.proofs.Listings.{listing_none, listing-next}
use Rattle.outbox.proofs.Commits.{released}
use Rattle.outbox.proofs.release.Goals as goal

pub loop-i-init : goal.loop-i-init
loop-i-init c =
    let s : SoundU c.args.o = sound_facts c.args.o c.requires.0 in
    let full : length c.args.o.records ≡ 256 = omega arith in
    (flagging_none (release-flags c.args.upto) c.args.o full s.few, listing_none (R.releases c.args.upto) c.args.o c.args.list.now c.args.n s full c.requires.1)

pub loop-i-preserved : goal.loop-i-preserved
loop-i-preserved c =
    let lt = c.loop-i-test.true in
    let f = c.loop-i.invariant.0 in
    let u = get_or c.loop-i.outbox.records c.loop-i.i blank_u in (
      flagging_more (release-flags c.args.upto) f lt c.release_one.result (c.release_one.ensures ∙ ap (λ b. released_u b u) c.releases-goes.ensures),
      listing-next c.loop-i.invariant.1 lt (releases_u c.args.upto) (λ v b. refl) u (flagging_at (release-flags c.args.upto) f lt) c.releases-goes.result
          c.releases-goes.ensures c.send_if-events.new.list c.send_if-events.result c.send_if-events.auto.list c.send_if-events.ensures,
    )

pub returns : goal.returns
returns c =
    released c.args.upto c.loop-i.outbox c.loop-i.invariant.0 c.loop-i.invariant.1 c.loop-i-test.false
