-- What is asked of a turn is what the rule book asks of its state. Assumes nothing.
use mathlib.Core.Path.{◌≡◌, refl, sym, ap, ◌∙◌}
use mathlib.Core.Bool.{Bool, true, false, not, ◌&&◌, ◌||◌}
use mathlib.Core.List.{List}
use Prim.Native.Nat.{ℕ}
use lib.Dec.{eqb}
use Rattle.rules.specs.declared.HostStatus.{HostStatus}
use Rattle.rules.specs.declared.ReceiveMode.{ReceiveMode}
use Rattle.rules.specs.declared.ReceiveMode.TheVariants.{Raw, Proposal, Channel, Rejection, Retiring}
use Rattle.rules.specs.State as R
use Rattle.rules.specs.State.{is_proposal}
use Rattle.rules.specs.Receiving.{listens, available}
use Rattle.delivery.specs.declared.Turn.{Turn}
use Rattle.delivery.specs.Turns.{during, Under}
use Rattle.delivery.specs.Acts.{Available}

abbrev pub listening : ReceiveMode → Turn → Bool
listening Raw t = true
listening Proposal t = not (t.failed || eqb t.disposition 3)
listening Channel t = false
listening Rejection t = true
listening Retiring t = true

module _ (t : Turn) (s : R.State) (fs : List R.Frame) (ws : List ℕ) (u : Under s t) where
  listens-same : (m : ReceiveMode) → listens m (during s fs ws t) ≡ listening m t
  listens-same Raw = refl
  listens-same Proposal = ap (λ (b : Bool). not (b || eqb t.disposition 3)) (sym u.failed)
  listens-same Channel = refl
  listens-same Rejection = refl
  listens-same Retiring = refl

module _ (status : HostStatus) (t : Turn) where
  pub available_not : status.available ≡ false → Available status t false
  unfolding available
  available_not e s fs ws u = sym (ap (λ (b : Bool). b && listens s.stage.mode (during s fs ws t)) e)

  -- by the mode
  pub available_in : {r : Bool} → status.available ≡ true → r ≡ listening t.mode t → Available status t r
  unfolding available
  available_in on h s fs ws u =
      h
      ∙ sym (listens-same t s fs ws u t.mode)
      ∙ ap (λ (k : ReceiveMode). listens k (during s fs ws t)) u.mode
      ∙ ap (λ (b : Bool). b && listens s.stage.mode (during s fs ws t)) (sym on)
