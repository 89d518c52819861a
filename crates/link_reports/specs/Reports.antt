-- The steps of a report on the parts of a session. Assumes nothing.
use Rattle.std.specs.Prelude.{ℕ, ◌≤◌, ◌≡◌, Bool, true, List, Float, length}
use Rattle.rules.specs.Calls.{reports}
use Rattle.peer_session.specs.Sound.{sound_of, Full}
use Rattle.session.specs.Promise.{CalledWithList}
use Rattle.parts.specs.declared.LinkAnswer.{LinkAnswer}
use Rattle.parts.specs.Parts.{Parts, parts, opened_of}
use Rattle.parts.specs.Driven.{Driven}

-- ---- past the tests: the list's length, the session

pub record Ready (p : Parts) (n : ℕ) : Type 0 where
  pub sound : sound_of (opened_of p) ≡ true
  pub full : Full (opened_of p)
  pub list : 4096 ≤ n

-- whatever the clock's time is

abbrev pub Fit : List ℕ → List ℕ → List ℕ → ℕ → Type 0
Fit w h b n = (t : Float) → Ready (parts w h b t) n

-- words, bytes and list are left as w', b' and l'
abbrev pub Reported : ℕ → ℕ → Bool → List ℕ → List ℕ → List ℕ → List ℕ → List ℕ → List ℕ → List ℕ → LinkAnswer → Type 0
Reported what number accepted w h b l w' b' l' x =
    (t : Float) → Driven (parts w h b t) (parts w' h b' t) x (λ s r. CalledWithList (reports what number accepted) s l r l')

-- a report of an ack changes words alone
abbrev pub AckReported : ℕ → Bool → List ℕ → List ℕ → LinkAnswer → Type 0
AckReported number accepted w w' x = (h b l : List ℕ) → Fit w h b (length l) → Reported 1 number accepted w h b l w' b l x
