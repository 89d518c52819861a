-- A keepalive on the parts of a session. Assumes nothing.
use Prim.Native.Nat.{ℕ, ◌*◌, ◌≤◌}
use mathlib.Core.Path.{◌≡◌, sym}
use mathlib.Core.Bool.{true}
use mathlib.Core.List.{List, [], ◌∷◌, map}
use lib.Ieee.{Float}
use lib.ListN.{length}
use Rattle.stores.specs.Placed.{placed}
use Rattle.rules.specs.declared.Answer.TheVariants.{Flag}
use Rattle.rules.specs.Events.{send_ack}
use Rattle.rules.specs.Calls.{gets_keepalive}
use Rattle.events.specs.Written.{Listed}
use Rattle.numbers.specs.Seats.{in_use}
use Rattle.peer_session.specs.Sound.{sound_of, Full}
use Rattle.session.specs.Promise.{ToldWithList}
use Rattle.acks.proofs.Keepalives as K
use Rattle.parts.specs.declared.LinkAnswer.{LinkAnswer}
use Rattle.parts.specs.Codes.{answer_of}
use Rattle.parts.specs.Parts.{parts, retry_in, opened_of}
use Rattle.parts.specs.Driven.{DrivenTold}
use Rattle.parts.proofs.Drives.{tells}
use Rattle.link_numbers.specs.Sets.{Set}
use Rattle.link_sound.proofs.Parts.{usable}

module _ (w h b : List ℕ) (t : Float) (l : List ℕ) {y : LinkAnswer} (ll : 4096 ≤ length l) where
  pub told : {l₁ l₂ : List ℕ} {n : ℕ} → sound_of (opened_of (parts w h b t)) ≡ true → Full (opened_of (parts w h b t)) → l₁ ≡ placed l (4 * 0) (5 ∷ 0 ∷ 0 ∷ 0 ∷ [])
      → Listed (map send_ack (in_use (retry_in w))) l₁ 1 l₂ n → y ≡ answer_of (Flag true) n
      → DrivenTold (parts w h b t) y (λ s r. ToldWithList gets_keepalive s l r l₂)
  unfolding opened_of
  told {n = n} sound full k li e = tells (parts w h b t) (Flag true) n e (K.told (opened_of (parts w h b t)) l ll sound full k li)

-- what the listing asks of the retries
module _ (w h b : List ℕ) (t : Float) (sound : sound_of (opened_of (parts w h b t)) ≡ true) (full : Full (opened_of (parts w h b t))) where
  pub retries : Set 784 6 w
  retries = (usable w h b t (record { is = sym sound; full = full })).retry.set
