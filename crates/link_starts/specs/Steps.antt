-- The messages of a record on the parts of a session: w, h, b are the words, halves and bytes before, and w', h', b' after. Assumes nothing.
use Rattle.std.specs.Prelude.{ℕ, ◌≤◌, ◌<◌, ◌≡◌, List, length, take}
use Rattle.rules.specs.Lists.{Bytes, total, itself}
use Rattle.rules.specs.Buffers.{repacked}
use Rattle.outbox.specs.View.{end_u, ExactOutbox}
use Rattle.starts.specs.declared.Reliable.{Reliable}
use Rattle.starts.specs.Records.{records_of, Fitting, Recorded}
use Rattle.parts.specs.Seats.{seats}
use Rattle.parts.specs.Parts.{at, unacked_at, outbox_in}
use Rattle.parts.specs.Frames.{Past}

-- only what lies between two indices changes
pub record Between (from to : ℕ) (l l' : List ℕ) : Type 0 where
  pub size : length l' ≡ length l
  pub below : (i : ℕ) → i < from → at l' i ≡ at l i
  pub above : (i : ℕ) → to ≤ i → at l' i ≡ at l i

-- the records of the messages
pub record Written (ns ks h b h' b' : List ℕ) : Type 0 where
  pub used : take (length ns) (seats 256 (unacked_at h' b')) ≡ records_of ns ks
  pub halves : Past 512 h h'
  pub bytes : Past 512 b b'

-- what a good record that is not short shows, with a session whose bodies lie within its store
pub record TakingIn (x : Reliable) (ns ks : List ℕ) (bodies : Bytes) (w h b : List ℕ) (size : ℕ) : Type 0 where
  pub fitting : Fitting ns ks
  pub bytes : total itself (take (length ns) ks) ≤ length bodies
  pub known : x.disposition ≤ 4
  pub exact : ExactOutbox (outbox_in w h b) size

-- the record is taken: o, o' are the store
pub record TakenIn (x : Reliable) (ns ks : List ℕ) (bodies : Bytes) (w h b : List ℕ) (o : Bytes) (w' h' b' : List ℕ) (o' : Bytes) : Type 0 where
  pub recorded : Recorded x.message_number ns ks (outbox_in w' h' b')
  pub stored : o' ≡ repacked (end_u (outbox_in w h b)) (take (total itself (take (length ns) ks)) bodies) o
  pub words : Past 3 w w'
  pub remote : at w' 2 ≡ x.remote_number
  pub halves : Past 512 h h'
  pub size : length b' ≡ length b
  pub bytes : (i : ℕ) → 512 ≤ i → (i ≡ 768 → ⊥) → at b' i ≡ at b i
  pub disposition : at b' 768 ≡ x.disposition
