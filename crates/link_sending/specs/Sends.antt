-- The steps of a send on the parts of a session. Assumes nothing.
use Rattle.std.specs.Prelude.{ℕ, ◌+◌, ◌≤◌, ◌<◌, ◌≡◌, true, List, set, Result, Ok, Err}
use Rattle.rules.specs.declared.Refusal.{Refusal}
use Rattle.rules.specs.Lists.{Bytes}
use Rattle.outbox.specs.declared.Outbox.{Outbox}
use Rattle.peer_session.specs.Allocates.{Allocates}
use Rattle.peer_session.specs.Sound.{Checked}
use Rattle.parts.specs.Parts.{Parts, parts, at, outbox_in, opened_of}
use Rattle.parts.specs.Frames.{Past}

-- ---- past the entry: the list's and the store's length, the session, the generation

pub record Ready (p : Parts) (n m : ℕ) : Type 0 where
  pub checked : Checked (opened_of p) true
  pub list : 4096 ≤ n
  pub outbound : 65536 ≤ m
  pub low : (opened_of p).clock.generation < 4294966000

-- ---- a message joins the unacked, or is refused: then the parts and the store are what they were

-- with the outbox that the parts hold after it
abbrev pub holding : Outbox → Result (Unit {0}) Refusal → Result Outbox Refusal
holding y (Ok tt) = Ok y
holding y (Err x) = Err x

pub record AllocatesIn (body : Bytes) (w h b : List ℕ) (o : Bytes) (r : Result (Unit {0}) Refusal) (w' h' b' : List ℕ) (o' : Bytes) : Type 0 where
  pub allocates : Allocates body (outbox_in w h b) o (holding (outbox_in w' h' b') r) o'
  pub words : Past 2 w w'
  pub halves : Past 512 h h'
  pub bytes : Past 512 b b'
  pub kept : (x : Refusal) → r ≡ Err x → parts w' h' b' ≡ parts w h b

-- ---- a message joins, and the generation is raised: in halves that were left by the message

pub record Joined (body : Bytes) (w h b : List ℕ) (o : Bytes) (w' h' b' : List ℕ) (o' : Bytes) : Type 0 where
  pub halves : List ℕ
  pub joins : AllocatesIn body w h b o (Ok tt) w' halves b' o'
  pub raises : h' ≡ set halves 768 (at h 768 + 1)

abbrev pub JoinsIn : Bytes → List ℕ → List ℕ → List ℕ → Bytes → Result (Unit {0}) Refusal → List ℕ → List ℕ → List ℕ → Bytes → Type 0
JoinsIn body w h b o (Ok tt) w' h' b' o' = Joined body w h b o w' h' b' o'
JoinsIn body w h b o (Err x) w' h' b' o' = AllocatesIn body w h b o (Err x) w' h' b' o'
