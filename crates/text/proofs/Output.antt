-- The laws of text put into a buffer. Assumes nothing.
use mathlib.Core.Path.{◌≡◌, refl, ap, subst, ◌∙◌}
use mathlib.Core.List.{List, [], ◌∷◌, ◌++◌}
use Prim.Native.Nat.{ℕ, ◌+◌, ◌-◌, ◌/◌, ◌%◌, ◌≤◌, ◌<◌}
use native.Mathlib.Omega.{arith}
use native.Mathlib.Numerals.{add-one}
use lib.ListN.{length, take, drop, set, length-append}
use lib.Seq.{set_split}
use borrow.Author.Tests.{lt-ltb, le-ltb}
use Rattle.stores.specs.Placed.{placed}
use Rattle.stores.proofs.Laws.{placed-placed}
use Rattle.text.specs.Output.{Put, glyph_of, hex_byte}

pub glyph_low : (d : ℕ) → d < 10 → 48 + d ≡ glyph_of d
unfolding glyph_of
glyph_low d h = rw (lt-ltb d 10 h) (omega arith)

pub glyph_high : (d : ℕ) → 10 ≤ d → 97 + (d - 10) ≡ glyph_of d
unfolding glyph_of
glyph_high d h = rw (le-ltb d 10 h) (omega arith)

pub put_one : (out : List ℕ) (n b : ℕ) → n < length out → Put out n (b ∷ []) (n + 1) (set out n b)
unfolding placed
put_one out n b h =
    let e : set out n b ≡ take n out ++ b ∷ drop (n + 1) out = set_split out n b h ∙ rw add-one in
    record { next = refl; bytes = e }

-- two runs, one after the other
pub put-put : {out out' out'' : List ℕ} {n r r' : ℕ} (a b : List ℕ) → n + length a + length b ≤ length out
    → Put out n a r out' → Put out' r b r' out'' → Put out n (a ++ b) r' out''
put-put {out} {out'} {out''} {n} {r} {r'} a b h p q =
    record {
      next = omega (arith, p.next, q.next, length-append a b);
      bytes =
          q.bytes
          ∙ ap (λ (l : List ℕ). placed l r b) p.bytes
          ∙ ap (λ (k : ℕ). placed (placed out n a) k b) p.next
          ∙ placed-placed out n a b h;
    }

pub put_pair : {out out' out'' : List ℕ} {n r r' : ℕ} (b c d : ℕ) → n + 2 ≤ length out → c ≡ glyph_of (b / 16) → d ≡ glyph_of (b % 16)
    → Put out n (c ∷ []) r out' → Put out' r (d ∷ []) r' out'' → Put out n (hex_byte b) r' out''
put_pair {out} {out'} {out''} {n} {r} {r'} b c d h e f p q =
    let both : c ∷ d ∷ [] ≡ hex_byte b = cc in
    let room : n + length {A = ℕ} (c ∷ []) + length {A = ℕ} (d ∷ []) ≤ length out = omega arith in
    subst (λ (l : List ℕ). Put out n l r' out'') both (put-put (c ∷ []) (d ∷ []) room p q)
