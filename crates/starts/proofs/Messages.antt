-- The messages of a record against its slices: what good_messages asks of them, their records, and their bodies. Assumes nothing.
use mathlib.Core.Path.{◌≡◌, refl, sym, ap, ◌∙◌}
use mathlib.Core.Bool.{Bool, false, ◌&&◌}
use mathlib.Core.List.{List, [], ◌∷◌, map}
use Prim.Native.Nat.{ℕ, suc, ◌+◌, ◌-◌, ◌≤◌}
use native.Mathlib.Omega.{arith}
use lib.ListN.{length, take, drop, length-drop}
use lib.Seq.{length-take-le}
use lib.Dec.{leb, ltb}
use borrow.Author.Tests.{ltb-false}
use Rattle.std.proofs.lemmas.Bool.{or_parts}
use Rattle.rules.specs.Lists.{Bytes, every, total, packed, itself, all, rising}
use Rattle.rules.specs.State as R
use Rattle.rules.specs.State.{body_of}
use Rattle.rules.specs.Start.{good_messages, message_number, message_size, message_below, as_sent}
use Rattle.stores.specs.Packed.{cut}
use Rattle.stores.proofs.Packs.{packed-cut}
use Rattle.outbox.specs.declared.Unacked.{Unacked}
use Rattle.outbox.specs.declared.Outbox.{Outbox}
use Rattle.outbox.specs.View.{len_u, unacked, record_u, used_u, unacked_of, end_u, ExactOutbox}
use Rattle.starts.specs.Started.{messages_of, short_record}
use Rattle.starts.specs.Records.{under, records_of, Fitting, Recorded}

-- ---- refusal 1 of a record

-- there are as many lengths as numbers, and as many bytes as those name
pub record Long (ns ks : List ℕ) (b : Bytes) : Type 0 where
  pub enough : length ns ≤ length ks
  pub bytes : total itself (take (length ns) ks) ≤ length b

pub long_record : (ns ks : List ℕ) (b : Bytes) → short_record ns ks b ≡ false → Long ns ks b
long_record ns ks b e =
    let x = or_parts (ltb (length ks) (length ns)) _ e in
    record { enough = ltb-false _ _ x.0; bytes = ltb-false _ _ x.1 }

-- ---- the messages by their numbers and lengths

pub length-messages : (ns ks : List ℕ) (b : Bytes) → length ns ≤ length ks → length (messages_of ns ks b) ≡ length ns
unfolding messages_of
length-messages [] ks b h = refl
length-messages (n ∷ ns) [] b h = absurd (omega arith)
length-messages (n ∷ ns) (k ∷ ks) b h = ap suc (length-messages ns ks (drop k b) (omega arith))

pub rising-messages : (last : ℕ) (ns ks : List ℕ) (b : Bytes) → length ns ≤ length ks
    → rising message_number last (messages_of ns ks b) ≡ rising itself last ns
unfolding messages_of rising
rising-messages last [] ks b h = refl
rising-messages last (n ∷ ns) [] b h = absurd (omega arith)
rising-messages last (n ∷ ns) (k ∷ ks) b h = ap (λ (t : Bool). ltb last n && t) (rising-messages n ns ks (drop k b) (omega arith))

pub below-messages : (next : ℕ) (ns ks : List ℕ) (b : Bytes) → length ns ≤ length ks
    → all (message_below next) (messages_of ns ks b) ≡ all (under next) ns
unfolding messages_of all
below-messages next [] ks b h = refl
below-messages next (n ∷ ns) [] b h = absurd (omega arith)
below-messages next (n ∷ ns) (k ∷ ks) b h = ap (λ (t : Bool). ltb n next && t) (below-messages next ns ks (drop k b) (omega arith))

-- what is cut from the bodies by the records
pub messages-cut : (ns ks : List ℕ) (b : Bytes) → map as_sent (messages_of ns ks b) ≡ cut len_u unacked (records_of ns ks) b
unfolding messages_of records_of cut
messages-cut [] ks b = refl
messages-cut (n ∷ ns) [] b = refl
messages-cut (n ∷ ns) (k ∷ ks) b =
    ap (λ (l : List R.Unacked). record { number = n; body = take k b; pending = false; unsent = false } ∷ l) (messages-cut ns ks (drop k b))

pub total-records : (ns ks : List ℕ) → length ns ≤ length ks → total len_u (records_of ns ks) ≡ total itself (take (length ns) ks)
unfolding records_of total
total-records [] ks h = refl
total-records (n ∷ ns) [] h = absurd (omega arith)
total-records (n ∷ ns) (k ∷ ks) h = ap (λ (t : ℕ). k + t) (total-records ns ks (omega arith))

-- their bodies, packed, are the bytes that the lengths name
pub packed-messages : (ns ks : List ℕ) (b : Bytes) → length ns ≤ length ks
    → packed body_of (map as_sent (messages_of ns ks b)) ≡ take (total itself (take (length ns) ks)) b
packed-messages ns ks b h =
    ap (packed body_of) (messages-cut ns ks b) ∙ packed-cut len_u unacked body_of (λ u s. refl) (records_of ns ks) b
    ∙ ap (λ (n : ℕ). take n b) (total-records ns ks h)

pub total-messages : (ns ks : List ℕ) (b : Bytes) → Long ns ks b → total message_size (messages_of ns ks b) ≡ total itself (take (length ns) ks)
unfolding messages_of total
total-messages [] ks b l = refl
total-messages (n ∷ ns) [] b l = absurd (omega (arith, l.enough))
total-messages (n ∷ ns) (k ∷ ks) b l =
    let lt : length (take k b) ≡ k = length-take-le k b (omega (arith, l.bytes)) in
    let ld : length (drop k b) ≡ length b - k = length-drop k b in
    let r : total message_size (messages_of ns ks (drop k b)) ≡ total itself (take (length ns) ks) =
    total-messages ns ks (drop k b) (record { enough = omega (arith, l.enough); bytes = omega (arith, l.bytes) }) in
    omega arith

-- the records of the messages
pub records-messages : (ns ks : List ℕ) (b : Bytes) → Long ns ks b → records_of ns ks ≡ map record_u (map as_sent (messages_of ns ks b))
unfolding messages_of records_of total
records-messages [] ks b l = refl
records-messages (n ∷ ns) [] b l = refl
records-messages (n ∷ ns) (k ∷ ks) b l =
    let lt : length (take k b) ≡ k = length-take-le k b (omega (arith, l.bytes)) in
    let ld : length (drop k b) ≡ length b - k = length-drop k b in
    ap {B = List Unacked} (λ (j : ℕ). record { number = n; len = j; pending = false; unsent = false } ∷ records_of ns ks) (sym lt)
    ∙ ap (λ (us : List Unacked). record { number = n; len = length (take k b); pending = false; unsent = false } ∷ us)
    (records-messages ns ks (drop k b) (record { enough = omega (arith, l.enough); bytes = omega (arith, l.bytes) }))

-- ---- good_messages, by the tests on the slices

abbrev pub slice_tests : ℕ → List ℕ → List ℕ → List Bool
slice_tests next ns ks = rising itself 0 ns ∷ all (under next) ns ∷ leb (length ns) 256 ∷ leb (total itself (take (length ns) ks)) 65536 ∷ []

-- the rule book's tests of the messages are tests of the slices
pub good_slices : (next : ℕ) (ns ks : List ℕ) (b : Bytes) → Long ns ks b
    → good_messages next (messages_of ns ks b) ≡ every (slice_tests next ns ks)
unfolding good_messages
good_slices next ns ks b l =
    tests_cong (rising-messages 0 ns ks b l.enough) (below-messages next ns ks b l.enough)
    (ap (λ (k : ℕ). leb k 256) (length-messages ns ks b l.enough)) (ap (λ (k : ℕ). leb k 65536) (total-messages ns ks b l))
  where
    tests_cong : {p p' q q' r r' s s' : Bool} → p ≡ p' → q ≡ q' → r ≡ r' → s ≡ s' → every (p ∷ q ∷ r ∷ s ∷ []) ≡ every (p' ∷ q' ∷ r' ∷ s' ∷ [])
    tests_cong {p} {p'} {q} {q'} {r} {r'} {s} {s'} a b c d = rw (a, b, c, d)

-- ---- an outbox that was made of the record

module _ {next : ℕ} {ns ks : List ℕ} {x : Outbox} (r : Recorded next ns ks x) where
  -- holds the records of the messages
  pub recorded-messages : (b : Bytes) → Long ns ks b → used_u x ≡ map record_u (map as_sent (messages_of ns ks b))
  recorded-messages b l = r.used ∙ records-messages ns ks b l

  -- and with the bodies, the messages
  pub recorded-unacked : (b : Bytes) → unacked_of x b ≡ map as_sent (messages_of ns ks b)
  unfolding unacked_of
  recorded-unacked b = ap (λ (us : List Unacked). cut len_u unacked us b) r.used ∙ sym (messages-cut ns ks b)

  -- within the limits
  pub recorded-exact : (size : ℕ) → Fitting ns ks → 65536 ≤ size → ExactOutbox x size
  recorded-exact size f room =
      let t : end_u x ≡ total itself (take (length ns) ks) = ap (total len_u) r.used ∙ total-records ns ks f.enough in
      record { full = r.full; few = omega (arith, r.count_is, f.few); small = omega (arith, f.small); room = room }
