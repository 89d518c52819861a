-- The laws of the field after an index. Assumes nothing.
use mathlib.Core.Path.{◌≡◌, ap, subst, ◌∙◌}
use mathlib.Core.Bool.{true, false}
use mathlib.Core.List.{List}
use Prim.Native.Nat.{ℕ, ◌+◌, ◌≤◌}
use lib.Dec.{ltb}
use lib.ListN.{length}
use borrow.Author.Tests.{lt-ltb, le-ltb}
use Rattle.std.specs.Prelude.{Option, Some, None, MatchOption}
use Rattle.text.specs.Fields.{NextField, field_of}
use Rattle.text.specs.Filled.{bytes_after, Filling}
use Rattle.text.specs.Hex.{hex_of, fitting, count_of, Decoded}
use Rattle.text.specs.Taken.{taken_of, after}

pub after_none : (read : List ℕ → Option ℕ) (s : List ℕ) (end : ℕ) → length s ≤ end → None ≡ after read s end
unfolding after
after_none read s end h = rw (le-ltb end (length s) h)

pub filling_none : (s : List ℕ) (end : ℕ) (out : List ℕ) → length s ≤ end → Filling s end out None out
unfolding bytes_after fitting
filling_none s end out h = let e : ltb end (length s) ≡ false = le-ltb end (length s) h in record { answer = rw e; bytes = rw e }

module _ {s : List ℕ} {end : ℕ} {p : List ℕ} {e : ℕ} (f : NextField s end p e) where
  pub after_field : (read : List ℕ → Option ℕ) {n : Option ℕ} → n ≡ read p → taken_of n e ≡ after read s end
  unfolding after
  after_field read a =
      ap (λ (x : Option ℕ). taken_of x e) (a ∙ ap read f.field)
      ∙ ap (taken_of (read (field_of s (end + 1)))) f.place
      ∙ rw (lt-ltb end (length s) f.some)

  pub filling_field : {out out' : List ℕ} {b : Option ℕ} → Decoded p out b out' → Filling s end out (taken_of b e) out'
  unfolding bytes_after
  filling_field {out} {out'} {b} a =
      let t : ltb end (length s) ≡ true = lt-ltb end (length s) f.some in
      let d : Decoded (field_of s (end + 1)) out b out' = subst (λ (l : List ℕ). Decoded l out b out') f.field a in
      record {
        answer =
            rw t
            (ap (λ (x : Option ℕ). taken_of x e) d.answer
            ∙ ap (taken_of (count_of (fitting (length out) (hex_of (field_of s (end + 1)))))) f.place);
        bytes = rw t d.bytes;
      }

  -- what is read of a field, and where it ends then
  pub after_read : (read : List ℕ → Option ℕ) (r : Option ℕ) → r ≡ read p → MatchOption r (None ≡ after read s end) (λ n. Some (n, e) ≡ after read s end)
  after_read read None a = after_field read a
  after_read read (Some n) a = after_field read a

  pub filling_read : {out out' : List ℕ} (r : Option ℕ) → Decoded p out r out'
      → MatchOption r (Filling s end out None out') (λ n. Filling s end out (Some (n, e)) out')
  filling_read None a = filling_field a
  filling_read (Some n) a = filling_field a
