use mathlib.Core.Path.{refl}
use native.Mathlib.Omega.{arith}
use Rattle.rules.specs.Commits as R
use Rattle.outbox.specs.Records.{releases_u}
use Rattle.link_outbox.proofs.Frees.{freeing_none, freeing_more, listing_start, listing-turn, frees}
use Rattle.link_outbox.proofs.release.Goals as goal

pub loop-i-init : goal.loop-i-init
loop-i-init c =
    let a = c.args in
    (refl, freeing_none a.upto a.halves.now a.bytes.now (omega arith), listing_start a.words.now a.halves.now a.bytes.now (R.releases a.upto) a.list.now a.n c.requires.0 c.requires.1)

pub loop-i-preserved : goal.loop-i-preserved
loop-i-preserved c =
    let a = c.args in
    let l = c.loop-i in
    let lt = c.loop-i-test.true in (
      refl,
      freeing_more l.invariant.1 (omega arith) c.releases-goes.result c.releases-goes.ensures c.free_if.new.bytes c.free_if.ensures,
      listing-turn a.words.now a.halves.now a.bytes.now l.invariant.2 lt (releases_u a.upto) (λ u s. refl) l.bytes (l.invariant.1.rest l.i (omega arith) (omega arith)) c.releases-goes.result
          c.releases-goes.ensures c.send_if-k.new.list c.send_if-k.result c.send_if-k.auto.list c.send_if-k.ensures _ refl,
    )

pub returns : goal.returns
returns c = frees c.args.words.now c.args.halves.now c.args.bytes.now c.loop-i.invariant.1 c.loop-i.invariant.2 c.loop-i-test.false
