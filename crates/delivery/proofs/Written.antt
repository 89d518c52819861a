-- What a delivery writes is what the rule book lists. Assumes nothing.
use Rattle.std.specs.Prelude.{if◌then◌else◌}
use mathlib.Core.Path.{◌≡◌, refl, sym, ap, ◌∙◌}
use mathlib.Core.Bool.{Bool, true, false}
use mathlib.Core.List.{List, [], ◌∷◌, append-nil}
use Prim.Native.Nat.{ℕ, ◌+◌, ◌*◌, ◌≤◌}
use native.Mathlib.Omega.{arith}
use native.Mathlib.Nat.{add-zero}
use lib.ListN.{length}
use lib.Dec.{ltb}
use Rattle.stores.specs.Placed.{placed}
use Rattle.stores.proofs.Laws.{placed-none}
use Rattle.rules.specs.declared.Clock.{Clock}
use Rattle.rules.specs.Lists.{Bytes, packed}
use Rattle.rules.specs.State as R
use Rattle.rules.specs.Events.{commit_requested, message, handed, listed}
use Rattle.rules.specs.Buffers.{flat}
use Rattle.events.specs.Written.{Listed, asked, Books, books, write}
use Rattle.events.proofs.Laws.{books_cong}
use Rattle.delivery.specs.Acts.{HandedOver}

pub handed_over : (number : ℕ) (body : Bytes) (l : List ℕ) (n : ℕ) (d : Bytes) (at : ℕ) (l' : List ℕ) (d' : Bytes)
    → l' ≡ placed l (4 * n) (2 ∷ number ∷ at ∷ length body ∷ []) → d' ≡ placed d at body → HandedOver number body l n d at l' d'
unfolding flat listed
handed_over number body l n d at l' d' e f = record { words = λ us. e; bytes = f }

pub write-message : (number : ℕ) (body : Bytes) (b : Books) (l' : List ℕ) (d' : Bytes) → HandedOver number body b.list b.n b.delivery b.at l' d'
    → (us : List R.Unacked) → write us (message number body ∷ []) b ≡ books l' (b.n + 1) d' (b.at + length body)
unfolding write packed
write-message number body b l' d' h us =
    books_cong (sym (h.words us)) refl (ap (placed b.delivery b.at) (append-nil body) ∙ sym h.bytes)
    (ap (λ (x : Bytes). b.at + length x) (append-nil body))

-- a request hands nothing over, and is one event at most
none-handed : (t : Bool) → packed handed (if t then (commit_requested ∷ []) else []) ≡ []
unfolding packed
none-handed true = refl
none-handed false = refl

one-asked : (t : Bool) → length (if t then (commit_requested ∷ []) else []) ≤ 1
one-asked true = omega arith
one-asked false = omega arith

module _ (c : Clock) (b : Books) (l' : List ℕ) (n' : ℕ) (h : Listed (asked c) b.list b.n l' n') where
  pub write-asked : (us : List R.Unacked) → write us (asked c) b ≡ books l' n' b.delivery b.at
  unfolding write
  write-asked us =
      let z : packed handed (asked c) ≡ [] = none-handed (ltb c.persisted c.generation) in
      books_cong (sym ((h us).words b.at)) (sym (h us).count) (ap (placed b.delivery b.at) z ∙ placed-none b.delivery b.at)
      (ap (λ (x : Bytes). b.at + length x) z ∙ add-zero b.at)

  pub few-asked : n' ≤ b.n + 1
  few-asked = omega (arith, (h []).count, one-asked (ltb c.persisted c.generation))
