-- What `emit_if` writes, as events listed. Assumes nothing.
use Rattle.std.specs.Prelude.{if◌then◌else◌}
use mathlib.Core.Path.{◌≡◌, refl, sym, ap, ◌∙◌}
use mathlib.Core.Bool.{Bool, true, false}
use mathlib.Core.List.{List, [], ◌∷◌}
use Prim.Native.Nat.{ℕ, ◌+◌, ◌*◌, ◌≤◌}
use native.Mathlib.Omega.{arith}
use native.Mathlib.Nat.{add-zero}
use Rattle.stores.specs.Placed.{placed}
use Rattle.stores.proofs.Laws.{placed-none}
use Rattle.rules.specs.State.{Unacked}
use Rattle.rules.specs.Events.{Event, listed}
use Rattle.rules.specs.Buffers.{flat}
use Rattle.events.specs.Written.{ListedIn}
use Rattle.events.specs.Emitted.{EmittedIf}

module _ {goes : Bool} {code number start len : ℕ} {l : List ℕ} {n : ℕ} where
  pub emitted_now : {l' : List ℕ} → goes ≡ true → l' ≡ placed l (4 * n) (code ∷ number ∷ start ∷ len ∷ []) → EmittedIf goes code number start len l n l' (n + 1)
  emitted_now e w = rw e (record { count = refl; words = w })

  pub emitted_not : goes ≡ false → EmittedIf goes code number start len l n l n
  emitted_not e = rw e (record { count = sym (add-zero n); words = sym (placed-none l (4 * n)) })

  -- one event at most
  pub emitted_few : {l' : List ℕ} {n' : ℕ} → EmittedIf goes code number start len l n l' n' → n' ≤ n + 1
  emitted_few {l'} {n'} s = go goes s.count
    where
      go : (b : Bool) → n' ≡ n + (if b then 1 else 0) → n' ≤ n + 1
      go true e = omega (arith, e)
      go false e = omega (arith, e)

-- an event by its words
pub emitted_listed : (us : List Unacked) (e : Event) (goes : Bool) {code number start len : ℕ} {l l' : List ℕ} {n n' : ℕ}
    → EmittedIf goes code number start len l n l' n' → ((at : ℕ) → flat (listed us at (e ∷ [])) ≡ code ∷ number ∷ start ∷ len ∷ [])
    → ListedIn us (if goes then (e ∷ []) else []) l n l' n'
unfolding flat listed
emitted_listed us e true {l = l} {n = n} s w = record { count = s.count; words = λ at. s.words ∙ ap (placed l (4 * n)) (sym (w at)) }
emitted_listed us e false s w = record { count = s.count; words = λ at. s.words }
