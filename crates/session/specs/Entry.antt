-- The tests at a call's entry. Assumes nothing.
use Rattle.std.specs.Prelude.{ℕ, ◌≡◌, ◌≤◌, ◌<◌, Bool, true, false, not, ◌&&◌, ◌||◌, leb, ltb, if◌then◌else◌, Result, Ok, Err}
use Rattle.rules.specs.declared.Refusal.{Refusal}
use Rattle.rules.specs.declared.Refusal.TheVariants.{ShortBuffer, UnknownCode, BadRecord, GenerationsExhausted}
use Rattle.rules.specs.Limits.{event_words, delivery_bytes, outbound_bytes, queue_bytes, generation_limit}
use Rattle.peer_session.specs.declared.SessionState.{SessionState}
use Rattle.peer_session.specs.Sound.{sound_of, Full}

-- the length that stands for a buffer that a call does not take
abbrev pub any_length : ℕ
any_length = 18446744073709551615

-- whether one of four buffers of these lengths is shorter than named
abbrev pub lacking : ℕ → ℕ → ℕ → ℕ → Bool
lacking l d o q = ltb l event_words || ltb d delivery_bytes || ltb o outbound_bytes || ltb q queue_bytes

-- 1, 2, 3, 22
abbrev pub entry_of : Bool → Bool → Bool → Bool → Result (Unit {0}) Refusal
entry_of short wrong sound spent =
    if short then Err ShortBuffer else
    if wrong then Err UnknownCode else
    if not sound then Err BadRecord else
    if spent then Err GenerationsExhausted else
    Ok tt

pub record Enters (s : SessionState) (l d o q : ℕ) (wrong raises : Bool) (r : Result (Unit {0}) Refusal) : Type 0 where
  pub is : r ≡ entry_of (lacking l d o q) wrong (sound_of s) (raises && leb generation_limit s.clock.generation)
  pub full : Full s

-- what is known of a call that passes
pub record Admitted (s : SessionState) (l d o q : ℕ) (wrong raises : Bool) : Type 0 where
  pub list : event_words ≤ l
  pub delivery : delivery_bytes ≤ d
  pub outbound : outbound_bytes ≤ o
  pub queue : queue_bytes ≤ q
  pub known : wrong ≡ false
  pub sound : sound_of s ≡ true
  pub full : Full s
  pub low : raises ≡ true → s.clock.generation < generation_limit
