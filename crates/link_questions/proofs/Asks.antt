-- The questions, by what they read of the parts. Assumes nothing.
use Prim.Native.Nat.{ℕ}
use mathlib.Core.Path.{◌≡◌, refl, sym, ◌∙◌}
use mathlib.Core.Bool.{false}
use mathlib.Core.List.{List}
use lib.Dec.{eqb, ltb}
use lib.Ieee.{Float}
use Rattle.rules.specs.Clock.{dirty}
use Rattle.rules.specs.Lists.{Bytes}
use Rattle.rules.specs.Setup.{rejection_complete}
use Rattle.peer_session.specs.View.{state_of}
use Rattle.session.proofs.Queries.{complete_yes, complete_no}
use Rattle.parts.specs.Codes.{stage_of}
use Rattle.parts.specs.Parts.{parts, at, unacked_at, outbox_in, codes_in, opened_of}
use Rattle.parts.proofs.Seats.{length-seats}

module _ (w h b : List ℕ) (t : Float) (o q : Bytes) where
  pub is-dirty : ltb (at h 770) (at h 768) ≡ dirty (state_of (opened_of (parts w h b t)) o q)
  unfolding opened_of
  is-dirty = refl

  module _ {d : ℕ} (is : d ≡ (stage_of (codes_in h b)).disposition) where
    pub is-complete : d ≡ 4 → eqb (at w 1) 0 ≡ rejection_complete (state_of (opened_of (parts w h b t)) o q)
    unfolding opened_of
    is-complete e = complete_yes (stage_of (codes_in h b)).disposition (outbox_in w h b) o (length-seats 256 (unacked_at h b)) (sym is ∙ e)

    pub is_not_complete : (d ≡ 4 → ⊥) → false ≡ rejection_complete (state_of (opened_of (parts w h b t)) o q)
    unfolding opened_of
    is_not_complete e = complete_no (stage_of (codes_in h b)).disposition _ (λ f. e (is ∙ f))
