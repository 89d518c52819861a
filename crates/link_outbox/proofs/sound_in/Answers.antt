use Prim.Native.Nat.{ℕ, ◌-◌}
use native.Mathlib.Omega.{arith}
use mathlib.Core.Path.{◌≡◌, sym, ap, ◌∙◌}
use mathlib.Core.Bool.{◌&&◌}
use lib.ListN.{take}
use lib.Seq.{slice}
use lib.Dec.{leb, ltb}
use Rattle.std.proofs.lemmas.Grind.{common_steps}
use Rattle.rules.specs.Lists.{total}
use Rattle.stores.proofs.Chains.{is_skip, is_stop}
use Rattle.outbox.specs.View.{len_u}
use Rattle.parts.specs.Seats.{seats}
use Rattle.parts.specs.Parts.{at, unacked_at}
use Rattle.link_outbox.specs.Tests.{falls}
use Rattle.link_outbox.proofs.Sounds.{sound-some, stopped, decides}
use Rattle.link_outbox.proofs.sound_in.Goals.{then-halves-ge1, else-halves-ge1, then-from-words, else-from-words}
use Rattle.link_outbox.proofs.sound_in.Goals as goal

pub returns-then-falls_in-lt1 : goal.returns-then-falls_in-lt1
returns-then-falls_in-lt1 c = λ b.
    let w = c.args.words.now in
    let h = c.args.halves.now in
    let x1 = leb 1 (at h 0) in
    let x2 = ltb (at h (at w 1 - 1)) (at w 0) in
    let x3 = ltb (falls (at h 0) (slice 1 (at w 1) (seats 256 (unacked_at h b)))) 1 in
    let x4 = leb (total len_u (take (at w 1) (seats 256 (unacked_at h b)))) 65536 in
    let two : c.if-halves-ge1.value ≡ (x1 && x2) = elim c.if-halves-ge1.branch [
      | then-halves-ge1 i ↦ grind (arith, common_steps)
      | else-halves-ge1 i ↦ grind (arith, common_steps)
    ] in
    let three : c.if-from-words.value ≡ ((x1 && x2) && x3) = elim c.if-from-words.branch [
      | then-from-words i ↦ sym (is_skip (x1 && x2) x3 _ (sym two ∙ i.if-from-words.true) (sym (i.value-is ∙ ap (λ (k : ℕ). ltb k 1) (i.falls_in.ensures b))))
      | else-from-words i ↦ i.value-is ∙ i.if-from-words.false ∙ sym (is_stop (x1 && x2) x3 (sym two ∙ i.if-from-words.false))
    ] in
    decides x1 x2 x3 x4 three c.if-falls_in-lt1.true (ap (λ (k : ℕ). leb k 65536) (c.lens_of.ensures b)) ∙ sound-some w h b (omega arith) (omega arith) (omega arith) (omega arith)

pub returns-else-falls_in-lt1 : goal.returns-else-falls_in-lt1
returns-else-falls_in-lt1 c = λ b.
    let w = c.args.words.now in
    let h = c.args.halves.now in
    let x1 = leb 1 (at h 0) in
    let x2 = ltb (at h (at w 1 - 1)) (at w 0) in
    let x3 = ltb (falls (at h 0) (slice 1 (at w 1) (seats 256 (unacked_at h b)))) 1 in
    let x4 = leb (total len_u (take (at w 1) (seats 256 (unacked_at h b)))) 65536 in
    let two : c.if-halves-ge1.value ≡ (x1 && x2) = elim c.if-halves-ge1.branch [
      | then-halves-ge1 i ↦ grind (arith, common_steps)
      | else-halves-ge1 i ↦ grind (arith, common_steps)
    ] in
    let three : c.if-from-words.value ≡ ((x1 && x2) && x3) = elim c.if-from-words.branch [
      | then-from-words i ↦ sym (is_skip (x1 && x2) x3 _ (sym two ∙ i.if-from-words.true) (sym (i.value-is ∙ ap (λ (k : ℕ). ltb k 1) (i.falls_in.ensures b))))
      | else-from-words i ↦ i.value-is ∙ i.if-from-words.false ∙ sym (is_stop (x1 && x2) x3 (sym two ∙ i.if-from-words.false))
    ] in
    stopped x1 x2 x3 x4 three c.if-falls_in-lt1.false ∙ sound-some w h b (omega arith) (omega arith) (omega arith) (omega arith)
