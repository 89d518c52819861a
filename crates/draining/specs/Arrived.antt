-- A call that takes all four buffers, past the tests at its entry. Assumes nothing.
use Rattle.std.specs.Prelude.{ℕ, ◌≤◌, ◌<◌, ◌≡◌, true, List, length, Option, None, Some}
use Rattle.rules.specs.declared.Answer.{Answer}
use Rattle.rules.specs.declared.Answer.TheVariants.{Refused}
use Rattle.rules.specs.Lists.{Bytes}
use Rattle.rules.specs.declared.Refusal.{Refusal}
use Rattle.peer_session.specs.declared.SessionState.{SessionState}
use Rattle.peer_session.specs.Sound.{sound_of, Full}

-- a sound session with buffers that are long enough, below the last generation
pub record Arrived (s : SessionState) (l : List ℕ) (d o q : Bytes) : Type 0 where
  pub good : sound_of s ≡ true
  pub full : Full s
  pub list : 4096 ≤ length l
  pub delivery : 49152 ≤ length d
  pub outbound : 65536 ≤ length o
  pub queue : 32768 ≤ length q
  pub low : s.clock.generation < 4294966000

-- the answer, by the refusal that ended it
abbrev pub told : Answer → Option Refusal → Answer
told a None = a
told a (Some x) = Refused x
