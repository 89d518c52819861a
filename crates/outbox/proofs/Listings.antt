-- Sends that are listed: a loop over the records lists code 8 for those that pass a test, and the rule book's words point to the same bytes.
-- Assumes nothing.
use Rattle.std.specs.Prelude.{if◌then◌else◌}
use mathlib.Core.Path.{◌≡◌, refl, sym, ap, ◌∙◌, subst, subst⁻¹}
use mathlib.Core.Bool.{Bool, true, false}
use mathlib.Core.List.{List, [], ◌∷◌, ◌++◌, map, map-append}
use Prim.Native.Nat.{ℕ, zero, suc, ◌+◌, ◌-◌, ◌*◌, ◌≤◌, ◌<◌}
use native.Mathlib.Omega.{arith}
use native.Mathlib.Numerals.{add-one}
use lib.ListN.{length, take, drop, get_or, length-drop}
use lib.Seq.{slice, take-suc, take_all, get_or-take, length-take-le}
use lib.Dec.{ltb}
use borrow.Author.Tests.{ltb-true, eq-eqb, ne_eqb}
use Rattle.stores.specs.Packed.{cut}
use Rattle.stores.specs.Placed.{placed}
use Rattle.stores.proofs.Packs.{take-cut, cut-append, length_cut, total_split, total-step}
use Rattle.rules.specs.Lists.{Bytes, kept, before, total, rising}
use Rattle.rules.specs.State as R
use Rattle.rules.specs.State.{size_of, is_number, start_of}
use Rattle.rules.specs.Events.{Event, message, commit_requested, acknowledged, rejection_acknowledged, keepalive, committed, failure, send_data, send_ack, answer_ack, listed}
use Rattle.rules.specs.Buffers.{flat}
use Rattle.rules.specs.Commits.{data_frame}
use Rattle.rules.proofs.Lists.{and_left, and_right, kept_append}
use Rattle.events.specs.Emitted.{EmittedIf}
use Rattle.events.specs.Written.{ListedIn}
use Rattle.events.proofs.Emitted.{emitted_few}
use Rattle.events.proofs.Laws.{listed-none, listed_then}
use Rattle.outbox.specs.declared.Unacked.{Unacked}
use Rattle.outbox.specs.declared.Outbox.{Outbox}
use Rattle.outbox.specs.View.{num_u, len_u, unacked, used_u, unacked_of, end_u, blank_u}
use Rattle.outbox.proofs.View.{SoundU}

-- ---- the words of code 8 depend on where bodies start, and on nothing else of the unacked messages

module _ (us vs : List R.Unacked) (same : (n : ℕ) → start_of n us ≡ start_of n vs) where
  listed_same : (at : ℕ) (es : List Event) → listed us at es ≡ listed vs at es
  unfolding listed
  listed_same at [] = refl
  listed_same at (commit_requested ∷ es) = rw (listed_same (at + 0) es)
  listed_same at (message n b ∷ es) = rw (listed_same (at + length b) es)
  listed_same at (acknowledged n ∷ es) = rw (listed_same (at + 0) es)
  listed_same at (rejection_acknowledged ∷ es) = rw (listed_same (at + 0) es)
  listed_same at (keepalive ∷ es) = rw (listed_same (at + 0) es)
  listed_same at (committed ∷ es) = rw (listed_same (at + 0) es)
  listed_same at (failure r ∷ es) = rw (listed_same (at + 0) es)
  listed_same at (send_data n b ∷ es) = rw (listed_same (at + 0) es, same n)
  listed_same at (send_ack n ∷ es) = rw (listed_same (at + 0) es)
  listed_same at (answer_ack n ∷ es) = rw (listed_same (at + 0) es)

  pub listed-starts : {es : List Event} {l l' : List ℕ} {n n' : ℕ} → ListedIn us es l n l' n' → ListedIn vs es l n l' n'
  listed-starts {es} {l} {l'} {n} x =
      record { count = x.count; words = λ at. x.words at ∙ ap (λ ws. placed l (4 * n) (flat ws)) (listed_same at es) }

-- ---- where the body of the i-th record starts, by its number: numbers rise, so it is the first that has it

pub rises-above : (last i : ℕ) (us : List Unacked) → rising num_u last us ≡ true → i < length us → last < (get_or us i blank_u).number
unfolding rising
rises-above last i [] h k = absurd (omega arith)
rises-above last zero (u ∷ us) h k = ltb-true last u.number (and_left (ltb last u.number) _ h)
rises-above last (suc i) (u ∷ us) h k =
    let l : last < u.number = ltb-true last u.number (and_left (ltb last u.number) _ h) in
    let r : u.number < (get_or us i blank_u).number = rises-above u.number i us (and_right (ltb last u.number) _ h) (omega arith) in
    omega arith

starts-at : (last i : ℕ) (us : List Unacked) (s : Bytes) → rising num_u last us ≡ true → i < length us → total len_u us ≤ length s
    → before size_of (is_number (get_or us i blank_u).number) (cut len_u unacked us s) ≡ total len_u (take i us)
unfolding rising before cut total
starts-at last i [] s h k room = absurd (omega arith)
starts-at last zero (u ∷ us) s h k room = rw (eq-eqb u.number u.number refl)
starts-at last (suc i) (u ∷ us) s h k room =
    let hs : rising num_u u.number us ≡ true = and_right (ltb last u.number) _ h in
    let a : u.number < (get_or us i blank_u).number = rises-above u.number i us hs (omega arith) in
    let lt : length (take u.len s) ≡ u.len = length-take-le u.len s (omega arith) in
    let ld : length (drop u.len s) ≡ length s - u.len = length-drop u.len s in
    let r : before size_of (is_number (get_or us i blank_u).number) (cut len_u unacked us (drop u.len s)) ≡ total len_u (take i us) =
    starts-at u.number i us (drop u.len s) hs (omega arith) (omega arith) in
    rw (ne_eqb u.number (get_or us i blank_u).number (λ e. omega arith), lt, r)

-- the messages up to and with the i-th
one_more : (i : ℕ) (us : List Unacked) (s : Bytes) → i < length us
    → take (i + 1) (cut len_u unacked us s)
    ≡ take i (cut len_u unacked us s) ++ (unacked (get_or us i blank_u) (take (get_or us i blank_u).len (drop (total len_u (take i us)) s)) ∷ [])
unfolding cut
one_more i us s h =
    let u : Unacked = get_or us i blank_u in
    ap (λ (k : ℕ). take k (cut len_u unacked us s)) (add-one i)
    ∙ take-cut len_u unacked (suc i) us s
    ∙ ap (λ (l : List Unacked). cut len_u unacked l s) (take-suc us i blank_u h)
    ∙ cut-append len_u unacked (take i us) (u ∷ []) s
    ∙ ap (λ (ms : List R.Unacked). ms ++ (unacked u (take u.len (drop (total len_u (take i us)) s)) ∷ [])) (sym (take-cut len_u unacked i us s))

-- ---- one send, where the record passes the test

one_kept : (p : R.Unacked → Bool) (m : R.Unacked) (t : Bool) → p m ≡ t → kept p (m ∷ []) ≡ (if t then (m ∷ []) else [])
unfolding kept
one_kept p m t e = ap (λ (b : Bool). if b then (m ∷ []) else []) e

sent-one : (us : List R.Unacked) (t : Bool) (u : Unacked) (b : Bytes) (at : ℕ) (l l' : List ℕ) (n n' : ℕ) → EmittedIf t 8 u.number at u.len l n l' n'
    → start_of u.number us ≡ at → length b ≡ u.len → ListedIn us (map data_frame (if t then (unacked u b ∷ []) else [])) l n l' n'
unfolding flat listed
sent-one us true u b at l l' n n' s e k =
    record {
      count = s.count;
      words = λ a. s.words
          ∙ ap (λ (x : ℕ). placed l (4 * n) (8 ∷ u.number ∷ x ∷ u.len ∷ [])) (sym e)
          ∙ ap (λ (x : ℕ). placed l (4 * n) (8 ∷ u.number ∷ start_of u.number us ∷ x ∷ [])) (sym k);
    }
sent-one us false u b at l l' n n' s e k = record { count = s.count; words = λ a. s.words }

-- ---- What a loop keeps that lists the sends of the records that pass p: those before index i are listed, the body of the next starts at at

pub record Listing (p : R.Unacked → Bool) (x : Outbox) (l₀ : List ℕ) (n : ℕ) (l : List ℕ) (k at i : ℕ) : Type 0 where
  pub sound : SoundU x
  pub full : length x.records ≡ 256
  pub room : 4 * (n + x.count) ≤ length l₀
  pub same : length l ≡ length l₀
  pub within : i ≤ x.count
  pub few : k ≤ n + i
  pub start : at + total len_u (slice i x.count x.records) ≡ end_u x
  pub words : (o : Bytes) → end_u x ≤ length o → ListedIn (unacked_of x o) (map data_frame (kept p (take i (unacked_of x o)))) l₀ n l k

pub listing_none : (p : R.Unacked → Bool) (x : Outbox) (l : List ℕ) (n : ℕ) → SoundU x → length x.records ≡ 256 → 4 * (n + x.count) ≤ length l
    → Listing p x l n l n 0 0
unfolding kept
listing_none p x l n s full room =
    record {
      sound = s;
      full = full;
      room = room;
      same = refl;
      within = omega arith;
      few = omega arith;
      start = omega arith;
      words = λ o h. listed-none l n;
    }

module _ {p : R.Unacked → Bool} {x : Outbox} {l₀ : List ℕ} {n : ℕ} {l : List ℕ} {k at i : ℕ} (g : Listing p x l₀ n l k at i) where
  module _ (h : i < x.count) (q : Unacked → Bool) (agrees : (u : Unacked) (b : Bytes) → p (unacked u b) ≡ q u) where
    listing-words : (l' : List ℕ) (k' : ℕ)
        → EmittedIf (q (get_or x.records i blank_u)) 8 (get_or x.records i blank_u).number at (get_or x.records i blank_u).len l k l' k'
        → (o : Bytes) → end_u x ≤ length o
        → ListedIn (unacked_of x o) (map data_frame (kept p (take (i + 1) (unacked_of x o)))) l₀ n l' k'
    unfolding unacked_of start_of
    listing-words l' k' s o e =
        let us : List Unacked = used_u x in
        let u : Unacked = get_or x.records i blank_u in
        let ms : List R.Unacked = cut len_u unacked us o in
        let lu : length (used_u x) ≡ x.count = length-take-le x.count x.records (omega (arith, g.full, g.sound.few)) in
        let eu : get_or (used_u x) i blank_u ≡ get_or x.records i blank_u = get_or-take x.count x.records i blank_u h in
        let ea : total len_u (take i (used_u x)) ≡ at = omega (arith, g.start, total_split len_u unacked i (used_u x)) in
        let fit : at + (get_or x.records i blank_u).len ≤ end_u x =
        omega (arith, g.start, total-step len_u x.records i x.count blank_u h (omega (arith, g.full, g.sound.few))) in
        let b : Bytes = take (get_or x.records i blank_u).len (drop at o) in
        let lb : length (take (get_or x.records i blank_u).len (drop at o)) ≡ (get_or x.records i blank_u).len =
        length-take-le (get_or x.records i blank_u).len (drop at o) (omega (arith, length-drop at o)) in
        let st : before size_of (is_number (get_or x.records i blank_u).number) (cut len_u unacked (used_u x) o) ≡ at =
        ap (λ (v : Unacked). before size_of (is_number v.number) (cut len_u unacked (used_u x) o)) (sym eu) ∙ starts-at 0 i (used_u x) o g.sound.order (omega arith) e ∙ ea in
        let cut1 : take (i + 1) (cut len_u unacked (used_u x) o) ≡ take i (cut len_u unacked (used_u x) o) ++ (unacked u b ∷ []) =
        one_more i (used_u x) o (omega arith)
        ∙ ap (λ (v : Unacked). take i ms ++ (unacked v (take v.len (drop (total len_u (take i (used_u x))) o)) ∷ [])) eu
        ∙ ap (λ (a : ℕ). take i ms ++ (unacked u (take u.len (drop a o)) ∷ [])) ea in
        let evs : map data_frame (kept p (take (i + 1) ms)) ≡ map data_frame (kept p (take i ms)) ++ map data_frame (if q u then (unacked u b ∷ []) else []) =
        ap (λ (y : List R.Unacked). map data_frame (kept p y)) cut1
        ∙ ap (map data_frame) (kept_append p (take i ms) (unacked u b ∷ []))
        ∙ map-append data_frame (kept p (take i ms)) (kept p (unacked u b ∷ []))
        ∙ ap (λ (y : List R.Unacked). map data_frame (kept p (take i ms)) ++ map data_frame y) (one_kept p (unacked u b) (q u) (agrees u b)) in
        subst⁻¹ (λ (es : List Event). ListedIn ms es l₀ n l' k') evs
        (listed_then (omega (arith, g.room)) (g.words o e) (sent-one ms (q u) u b at l l' k k' s st lb))

    pub listing_more : (l' : List ℕ) (k' : ℕ) → length l' ≡ length l
        → EmittedIf (q (get_or x.records i blank_u)) 8 (get_or x.records i blank_u).number at (get_or x.records i blank_u).len l k l' k'
        → Listing p x l₀ n l' k' (at + (get_or x.records i blank_u).len) (i + 1)
    listing_more l' k' el s =
        record {
          sound = g.sound;
          full = g.full;
          room = g.room;
          same = el ∙ g.same;
          within = omega arith;
          few = omega (arith, g.few, emitted_few s);
          start = omega (arith, g.start, total-step len_u x.records i x.count blank_u h (omega (arith, g.full, g.sound.few)));
          words = listing-words l' k' s;
        }

    -- the same, of a record and a test that a call answered
    pub listing-next : (u : Unacked) → u ≡ get_or x.records i blank_u → (t : Bool) → t ≡ q u → (l' : List ℕ) (k' : ℕ) → length l' ≡ length l
        → EmittedIf t 8 u.number at u.len l k l' k'
        → Listing p x l₀ n l' k' (at + u.len) (i + 1)
    listing-next u eu t et l' k' el s =
        let s1 : EmittedIf (q u) 8 u.number at u.len l k l' k' = subst (λ (b : Bool). EmittedIf b 8 u.number at u.len l k l' k') et s in
        let s2 : EmittedIf (q (get_or x.records i blank_u)) 8 (get_or x.records i blank_u).number at (get_or x.records i blank_u).len l k l' k' =
        subst (λ (v : Unacked). EmittedIf (q v) 8 v.number at v.len l k l' k') eu s1 in
        subst⁻¹ (λ (v : Unacked). Listing p x l₀ n l' k' (at + v.len) (i + 1)) eu (listing_more l' k' el s2)

  -- all are listed
  pub listing-all : x.count ≤ i → (o : Bytes) → end_u x ≤ length o → ListedIn (unacked_of x o) (map data_frame (kept p (unacked_of x o))) l₀ n l k
  unfolding unacked_of
  listing-all h o e =
      let lu : length (used_u x) ≡ x.count = length-take-le x.count x.records (omega (arith, g.full, g.sound.few)) in
      let lm : length (cut len_u unacked (used_u x) o) ≤ i = omega (arith, length_cut len_u unacked (used_u x) o) in
      subst (λ (ms : List R.Unacked). ListedIn (cut len_u unacked (used_u x) o) (map data_frame (kept p ms)) l₀ n l k) (take_all i (cut len_u unacked (used_u x) o) lm) (g.words o e)
