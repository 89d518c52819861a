-- A delivery in Raw mode. Assumes nothing.
use mathlib.Core.Path.{◌≡◌, refl, sym, ap, ◌∙◌, subst}
use mathlib.Core.Bool.{Bool, true, not, ◌||◌}
use lib.Dec.{eqb, ltb}
use Rattle.std.specs.Prelude.{Ok, if◌then◌else◌}
use Rattle.rules.specs.State.{is_proposal}
use Rattle.rules.specs.declared.ReceiveMode.{ReceiveMode}
use mathlib.Core.List.{List, [], ◌∷◌}
use Prim.Native.Nat.{ℕ, ◌+◌, ◌*◌, ◌≤◌}
use native.Mathlib.Omega.{arith}
use lib.ListN.{length}
use Rattle.stores.specs.Placed.{placed}
use Rattle.rules.specs.declared.HostStatus.{HostStatus}
use Rattle.rules.specs.declared.ReceiveMode.TheVariants.{Raw}
use Rattle.rules.specs.Lists.{Bytes}
use Rattle.rules.specs.State as R
use Rattle.rules.specs.Events.{commit_requested, listed}
use Rattle.rules.specs.Buffers.{flat}
use Rattle.events.specs.Emitted.{EmittedIf}
use Rattle.events.specs.Written.{ListedIn, Listed, asked, books}
use Rattle.events.proofs.Emitted.{emitted_listed}
use Rattle.delivery.specs.declared.Turn.{Turn}
use Rattle.delivery.specs.Turns.{frame_of, step_at, Delivered}
use Rattle.delivery.specs.Acts.{Available, Deliverable}
use Rattle.delivery.proofs.Written.{handed_over}
use Rattle.delivery.proofs.Steps.{raw_is, did_message, did_consumed, deliver-goes}
use Rattle.delivery.proofs.Tests.{listening, available_in}
use Rattle.link_delivery.specs.Drains.{reached, HandedRaw}

-- ---- what is asked of a turn

pub raw_available : (status : HostStatus) (t : Turn) → status.available ≡ true → t.mode ≡ Raw → Available status t true
raw_available status t on e = available_in status t on (ap (λ (m : ReceiveMode). listening m t) (sym e))

pub raw_deliverable : (n k : ℕ) (t : Turn) → t.mode ≡ Raw → Deliverable n k t true
raw_deliverable n k t e b s fs ws u = ap (λ (m : ReceiveMode). not (is_proposal m) || eqb n 1 || eqb k 2) (sym e ∙ u.mode)

-- ---- what is written

module _ (number generation persisted : ℕ) (l : List ℕ) (n : ℕ) (d : Bytes) (at : ℕ) {body : Bytes}
    (room : 4 * n + 8 ≤ length l) (bytes : at + length body ≤ length d) {l₁ : List ℕ} {d₁ : Bytes}
    (e : l₁ ≡ placed l (4 * n) (2 ∷ number ∷ at ∷ length body ∷ [])) (f : d₁ ≡ placed d at body) where
  -- with what is listed after it
  raw : (t : Turn) (kind : ℕ) → t.mode ≡ Raw → (l₂ : List ℕ) (k : ℕ) → Listed (asked (reached t number (t.clock.generation + 1)).clock) l₁ (n + 1) l₂ k
      → Delivered (frame_of number kind body) t (books l n d at) (Ok (step_at (reached t number (t.clock.generation + 1)) k (at + length body))) l₂ d₁
  raw t kind m l₂ k h =
      let g : R.Frame = frame_of number kind body in
      deliver-goes g t (books l n d at) l₁ d₁ (record { listed = omega arith; filled = omega arith }) (step_at t (n + 1) (at + length body))
      (did_consumed g m (λ st. raw_is g st) (omega arith) (did_message t (books l n d at) g (handed_over number body l n d at l₁ d₁ e f) refl)) h refl

  -- the same, by the generation that it comes to: a commit is requested where it exceeds the persisted one
  pub handed-raw : {l₂ : List ℕ} {k : ℕ} → EmittedIf (ltb persisted generation) 1 0 0 0 l₁ (n + 1) l₂ k
      → HandedRaw number generation persisted body (books l n d at) k l₂ d₁
  unfolding flat listed
  handed-raw {l₂} {k} s =
      record {
        delivered = λ t kind m eg ep.
            let test : ltb persisted generation ≡ ltb t.clock.persisted (t.clock.generation + 1) = rw (eg, ep) refl in
            subst (λ (g : ℕ). Delivered (frame_of number kind body) t (books l n d at) (Ok (step_at (reached t number g) k (at + length body))) l₂ d₁) eg
            (raw t kind m l₂ k
            (λ us. subst (λ (b : Bool). ListedIn us (if b then (commit_requested ∷ []) else []) l₁ (n + 1) l₂ k) test
            (emitted_listed us commit_requested (ltb persisted generation) s (λ x. refl))));
      }
