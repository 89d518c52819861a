-- What is asked of messages cut from a store, where the answer is in their records. Assumes nothing.
use Rattle.std.specs.Prelude.{if◌then◌else◌}
use mathlib.Core.Path.{◌≡◌, refl, ap, ◌∙◌}
use mathlib.Core.Bool.{Bool, ◌||◌}
use mathlib.Core.List.{List, [], ◌∷◌}
use Prim.Native.Nat.{ℕ, suc}
use lib.ListN.{take, drop}
use Rattle.rules.specs.Lists.{any}
use Rattle.stores.specs.Packed.{cut}
use Rattle.stores.specs.Fronts.{front}

module _ {A M : Type 0} (size : A → ℕ) (make : A → List ℕ → M) (p : M → Bool) (r : A → Bool) (same : (u : A) (b : List ℕ) → p (make u b) ≡ r u) where
  pub any-cut : (us : List A) (s : List ℕ) → any p (cut size make us s) ≡ any r us
  unfolding any cut
  any-cut [] s = refl
  any-cut (u ∷ us) s =
      ap (λ (t : Bool). t || any p (cut size make us (drop (size u) s))) (same u (take (size u) s)) ∙ ap (λ (t : Bool). r u || t) (any-cut us (drop (size u) s))

  pub front_cut : (us : List A) (s : List ℕ) → front p (cut size make us s) ≡ front r us
  unfolding front cut
  front_cut [] s = refl
  front_cut (u ∷ us) s =
      ap (λ (t : Bool). if t then suc (front p (cut size make us (drop (size u) s))) else 0) (same u (take (size u) s))
      ∙ ap (λ (k : ℕ). if r u then suc k else 0) (front_cut us (drop (size u) s))
