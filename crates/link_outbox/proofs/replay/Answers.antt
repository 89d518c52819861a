use mathlib.Core.Path.{refl, sym}
use Rattle.rules.specs.Replay.{not_pending}
use Rattle.outbox.specs.Records.{not_pending_u}
use Rattle.outbox.proofs.Commits.{replayed}
use Rattle.link_outbox.proofs.Frees.{not_not, listing_start, listing-turn}
use Rattle.link_outbox.proofs.replay.Goals as goal

pub loop-i-init : goal.loop-i-init
loop-i-init c =
    let a = c.args in
    (refl, listing_start a.words.now a.halves.now a.bytes.now not_pending a.list.now a.n c.requires.0 c.requires.1)

pub loop-i-preserved : goal.loop-i-preserved
loop-i-preserved c =
    let a = c.args in
    let l = c.loop-i in
    let lt = c.loop-i-test.true in (
      refl,
      listing-turn a.words.now a.halves.now a.bytes.now l.invariant.1 lt not_pending_u (λ u s. refl) a.bytes.now refl _
          (sym (not_not _)) c.send_if-k.new.list c.send_if-k.result c.send_if-k.auto.list c.send_if-k.ensures _ refl,
    )

pub returns : goal.returns
returns c = replayed c.loop-i.invariant.1 c.loop-i-test.false
