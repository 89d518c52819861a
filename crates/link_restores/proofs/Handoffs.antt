-- The handoff of a restore, where it lies. Assumes nothing.
use Rattle.std.specs.Prelude.{if◌then◌else◌}
use Prim.Native.Nat.{ℕ, ◌+◌, ◌≤◌}
use mathlib.Core.Path.{◌≡◌, refl, sym, ap, ◌∙◌, subst}
use mathlib.Core.Bool.{Bool, true, false}
use mathlib.Core.List.{List, [], ◌∷◌}
use mathlib.Core.Option.{none, some}
use native.Mathlib.Omega.{arith}
use lib.ListN.{length, take, drop, set, length-set}
use lib.Seq.{get_or-set_same, get_or-set_other, take_at, drop-set-lt}
use borrow.Author.Tests.{eq-eqb, ne_eqb}
use Rattle.rules.specs.Lists.{Bytes, same}
use Rattle.rules.specs.Answers.{flag_value}
use Rattle.stores.specs.Placed.{placed}
use Rattle.stores.proofs.Laws.{length-placed, drop-placed}
use Rattle.peer_session.specs.View.{handoff_of}
use Rattle.rules.specs.State as R
use Rattle.parts.specs.Parts.{at, flag, section, handoff_in}
use Rattle.parts.proofs.Fields.{length-section}
use Rattle.link_starts.specs.Filled.{Filled}
use Rattle.link_starts.proofs.Filling.{puts, puts_filled, placed_below, placed-above}
use Rattle.link_codes.proofs.Bodies.{held-body}
use Rattle.link_codes.proofs.Enums.{flag_read}
use Rattle.link_restores.specs.Handed.{HandedIn}

-- what a comparison of the held body tells
pub body-told : (body : Bytes) {k l : Bytes} {r : Bool} → l ≡ k → r ≡ same l body → same k body ≡ r
body-told body e f = ap (λ (z : Bytes). same z body) (sym e) ∙ sym f

pub flag-there : (x : ℕ) → (x ≡ 0 → ⊥) → flag x ≡ true
flag-there x e = rw (ne_eqb x 0 e)

pub flag_gone : (x : ℕ) → x ≡ 0 → flag x ≡ false
flag_gone x e = rw (eq-eqb x 0 e)

-- ---- the handoff is written

module _ (w b : List ℕ) (lw : length w ≡ 1296) (lb : length b ≡ 4936) where
  pub hands_none : HandedIn none w b w (set b 775 0)
  hands_none =
      let z : at (set b 775 0) 775 ≡ 0 = get_or-set_same b 775 0 0 (omega arith) in
      let p : flag (at (set b 775 0) 775) ≡ false = flag_gone (at (set b 775 0) 775) z in
      record {
        handed =
            record {
              is = rw p refl;
              full = length-section 776 4096 (set b 775 0) (omega (arith, length-set b 775 0));
              size = small (at w 7) (flag (at (set b 775 0) 775)) p;
            };
        words = record { size = refl; below = λ i k. refl; above = λ i k. refl };
        bytes =
            record {
              size = length-set b 775 0;
              below = λ i k. get_or-set_other b 775 i 0 0 (λ f. omega (arith, f));
              above = λ i k. get_or-set_other b 775 i 0 0 (λ f. omega (arith, f));
            };
      }
    where
      small : (n : ℕ) (t : Bool) → t ≡ false → (if t then n else 0) ≤ 4096
      small n t e = rw e (omega arith)

  module _ (given : R.Handoff) (short-body : length given.body ≤ 4096) where
    abbrev body : Bytes
    body = given.body

    abbrev w' : List ℕ
    w' = set (set (set w 7 (length body)) 8 given.id) 9 given.number

    abbrev b₁ : List ℕ
    b₁ = placed b 776 body

    module _ (s a : ℕ) (es : s ≡ flag_value given.sent) (ea : a ≡ flag_value given.acknowledged) where
      abbrev b' : List ℕ
      b' = set (set (set b₁ 773 s) 774 a) 775 1

      words : Filled 7 3 (at (length body ∷ given.id ∷ given.number ∷ [])) w w'
      unfolding puts
      words = puts_filled 7 (length body ∷ given.id ∷ given.number ∷ []) w (omega arith)

      room : 776 + length body ≤ length b
      room = omega (arith, short-body)

      long : length b₁ ≡ length b
      long = length-placed b 776 body room

      flags : Filled 773 3 (at (s ∷ a ∷ 1 ∷ [])) b₁ b'
      unfolding puts
      flags = puts_filled 773 (s ∷ a ∷ 1 ∷ []) b₁ (omega (arith, long))

      dropped : drop 776 b' ≡ drop 776 b₁
      dropped =
          drop-set-lt 776 (set (set b₁ 773 s) 774 a) 775 1 (omega arith) ∙ drop-set-lt 776 (set b₁ 773 s) 774 a (omega arith) ∙ drop-set-lt 776 b₁ 773 s (omega arith)

      copied : take (length body) (section 776 4096 b') ≡ body
      copied =
          held-body (length body) b' short-body ∙ ap (take (length body)) (dropped ∙ drop-placed b 776 body room)
          ∙ take_at body (drop (776 + length body) b) (length body) refl

      is : handoff_of (handoff_in w' b') ≡ some given
      is =
          let n : at w' 7 ≡ length body = words.filled 0 (omega arith) in
          let i : at w' 8 ≡ given.id = words.filled 1 (omega arith) in
          let m : at w' 9 ≡ given.number = words.filled 2 (omega arith) in
          let fs : flag (at b' 773) ≡ given.sent = ap flag (flags.filled 0 (omega arith) ∙ es) ∙ flag_read given.sent in
          let fa : flag (at b' 774) ≡ given.acknowledged = ap flag (flags.filled 1 (omega arith) ∙ ea) ∙ flag_read given.acknowledged in
          let fp : flag (at b' 775) ≡ true = ap flag (flags.filled 2 (omega arith)) in
          rw (n, i, m, fs, fa, fp, copied) refl

      hands_given : HandedIn (some given) w b w' b'
      hands_given =
          let size : length b' ≡ length b = flags.size ∙ long in
          record {
            handed =
                record {
                  is = is;
                  full = length-section 776 4096 b' (omega (arith, size));
                  size = held (flag (at b' 775)) (at w' 7) (words.filled 0 (omega arith));
                };
            words = record { size = words.size; below = words.below; above = words.above };
            bytes =
                record {
                  size = size;
                  below = λ i k. flags.below i k ∙ placed_below b 776 body room i (omega arith);
                  above = λ i k. flags.above i (omega arith) ∙ placed-above b 776 body room i (omega (arith, short-body));
                };
          }
        where
          held : (t : Bool) (n : ℕ) → n ≡ length body → (if t then n else 0) ≤ 4096
          held true n e = omega (arith, e, short-body)
          held false n e = omega arith

      pub hands_at : (l : List ℕ) → l ≡ placed b 776 body → HandedIn (some given) w b w' (set (set (set l 773 s) 774 a) 775 1)
      hands_at l e = subst (λ (k : List ℕ). HandedIn (some given) w b w' (set (set (set k 773 s) 774 a) 775 1)) (sym e) hands_given
