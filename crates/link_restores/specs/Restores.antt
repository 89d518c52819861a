-- The tests of a restore on the parts of a session, in their order. Assumes nothing.
use Rattle.std.specs.Prelude.{ℕ, ◌≤◌, ◌≡◌, true, false, not, ◌&&◌, List, eqb, Float, length, Result, Ok, Err}
use Rattle.rules.specs.declared.Refusal.{Refusal}
use Rattle.std.proofs.Math.Option.{Option}
use Rattle.rules.specs.State as R
use Rattle.rules.specs.Lists.{Bytes}
use Rattle.rules.specs.Start.{good_record, handoff_size}
use Rattle.peer_session.specs.Sound.{sound_of, Full}
use Rattle.session.specs.declared.Returned.{Returned}
use Rattle.session.specs.Promise.{Turned}
use Rattle.starts.specs.declared.Reliable.{Reliable}
use Rattle.starts.specs.Started.{short_record}
use Rattle.starts.specs.Records.{reliable_of}
use Rattle.restores.specs.Restored.{RestoredBy}
use Rattle.parts.specs.Parts.{Parts, parts, opened_of}

module _ (x : Reliable) (ns ks : List ℕ) (bodies : Bytes) (given : Option R.Handoff) where
  pub record Ready (p : Parts) (n : ℕ) : Type 0 where
    pub outbound : 65536 ≤ n
    pub long : short_record ns ks bodies ≡ false
    pub known : x.disposition ≤ 4
    pub sound : sound_of (opened_of p) ≡ true
    pub full : Full (opened_of p)
    pub good : good_record (reliable_of x ns ks bodies) ≡ true
    pub small : handoff_size given ≤ 4096
    pub soon : false ≡ not (eqb (opened_of p).clock.generation 0 && eqb (opened_of p).queue.count 0 && eqb (opened_of p).waiting.count 0)

  pub record Turns (p : Parts) (n : ℕ) (z : Refusal) : Type 0 where
    pub call : (o : Bytes) → length o ≡ n → (r : Returned) → Turned (opened_of p) z r → RestoredBy x ns ks bodies given (opened_of p) o r o

  abbrev pub Found : Parts → ℕ → Result (Unit {0}) Refusal → Type 0
  Found p n (Ok tt) = Ready p n
  Found p n (Err z) = Turns p n z

  abbrev pub Enters : List ℕ → List ℕ → List ℕ → ℕ → Result (Unit {0}) Refusal → Type 0
  Enters w h b n r = (t : Float) → Found (parts w h b t) n r
