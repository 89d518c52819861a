-- The queries. Assumes nothing.
use mathlib.Core.Path.{◌≡◌, refl, sym}
use mathlib.Core.Bool.{Bool, false, ◌&&◌}
use mathlib.Core.List.{List, [], ◌∷◌}
use Prim.Native.Nat.{ℕ, zero, suc, ◌<◌}
use native.Mathlib.Omega.{arith}
use lib.ListN.{length, take}
use lib.Dec.{eqb}
use borrow.Author.Tests.{eq-eqb, ne_eqb}
use Rattle.stores.specs.Packed.{cut}
use Rattle.rules.specs.Lists.{Bytes, empty}
use Rattle.outbox.specs.declared.Unacked.{Unacked}
use Rattle.outbox.specs.declared.Outbox.{Outbox}
use Rattle.outbox.specs.View.{len_u, unacked, unacked_of}

empty-cut : (k : ℕ) (us : List Unacked) (o : Bytes) → 0 < length us → empty (cut len_u unacked (take k us) o) ≡ eqb k 0
unfolding cut
empty-cut zero us o h = refl
empty-cut (suc k) [] o h = absurd (omega arith)
empty-cut (suc k) (u ∷ us) o h = sym (ne_eqb (suc k) 0 (λ e. omega arith))

-- nothing is unacked where the count is 0
pub empty-unacked : (x : Outbox) (o : Bytes) → length x.records ≡ 256 → empty (unacked_of x o) ≡ eqb x.count 0
unfolding unacked_of
empty-unacked x o full = empty-cut x.count x.records o (omega arith)

pub complete_yes : (d : ℕ) (x : Outbox) (o : Bytes) → length x.records ≡ 256 → d ≡ 4 → eqb x.count 0 ≡ (eqb d 4 && empty (unacked_of x o))
complete_yes d x o full e = rw (eq-eqb d 4 e, empty-unacked x o full)

pub complete_no : (d : ℕ) (t : Bool) → (d ≡ 4 → ⊥) → false ≡ (eqb d 4 && t)
complete_no d t e = rw (ne_eqb d 4 e)
