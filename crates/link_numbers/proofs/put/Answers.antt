use Prim.Native.Nat.{◌+◌, ◌<◌}
use native.Mathlib.Omega.{arith}
use mathlib.Core.Path.{◌≡◌}
use Rattle.parts.specs.Parts.{at}
use Rattle.link_numbers.proofs.Changes.{put-stays, put-fits, put-comes}
use Rattle.link_numbers.proofs.put.Goals as goal
use Rattle.link_numbers.proofs.put.Goals.{else-i-count-via-then-i-count+else-words-from, else-i-count-via-else-i-count}

pub returns-then-words-from : goal.returns-then-words-from
returns-then-words-from c =
    put-stays c.requires.0 c.args.n c.seat-i.result c.seat-i.ensures c.if-i-count.true c.if-words-from.true

pub put_at-requires : goal.put_at-requires
put_at-requires c =
    let new : c.seat-i.result < at c.args.words.now c.args.at → at c.args.words.now (c.args.from + c.seat-i.result) ≡ c.args.n → ⊥ =
    elim c.else-i-count.branch [ else-i-count-via-then-i-count+else-words-from w ↦ λ h. w.if-words-from.false | else-i-count-via-else-i-count w ↦ λ h e. absurd (omega arith) ] in
    put-fits c.requires.0 c.args.n c.seat-i.result c.seat-i.ensures new c.requires.1

pub returns : goal.returns
returns c =
    let new : c.seat-i.result < at c.args.words.now c.args.at → at c.args.words.now (c.args.from + c.seat-i.result) ≡ c.args.n → ⊥ =
    elim c.else-i-count.branch [ else-i-count-via-then-i-count+else-words-from w ↦ λ h. w.if-words-from.false | else-i-count-via-else-i-count w ↦ λ h e. absurd (omega arith) ] in
    put-comes c.requires.0 c.args.n c.seat-i.result c.seat-i.ensures new c.put_at.ensures
