-- Loops over a run of numbers: some are dropped, some are listed. Assumes nothing.
use Rattle.std.specs.Prelude.{if◌then◌else◌}
use mathlib.Core.Path.{◌≡◌, refl, sym, ap, ◌∙◌, subst}
use mathlib.Core.Bool.{Bool, true, false}
use mathlib.Core.List.{List, [], ◌∷◌, ◌++◌, map}
use Prim.Native.Nat.{ℕ, ◌+◌, ◌*◌, ◌≤◌, ◌<◌}
use native.Mathlib.Omega.{arith}
use native.Mathlib.Numerals.{add-one}
use lib.ListN.{length, take, drop, get_or, set}
use lib.Seq.{take-suc, take_all, take-length, length-take-le}
use lib.Dec.{ltb, leb}
use Rattle.stores.specs.Placed.{placed}
use Rattle.stores.proofs.Packs.{map-append}
use Rattle.stores.proofs.Sifts.{Sifted, sifted_none, sifted_at, sifted_more, sifted_all, kept_next}
use Rattle.rules.specs.Lists.{kept}
use Rattle.rules.specs.Events.{Event, send_ack, listed}
use Rattle.rules.specs.Buffers.{flat}
use Rattle.rules.specs.Commits.{releases_ack}
use Rattle.events.specs.Written.{ListedIn, Listed}
use Rattle.events.specs.Emitted.{EmittedIf}
use Rattle.events.proofs.Emitted.{emitted_listed}
use Rattle.events.proofs.Laws.{listed-none, listed_then}
use Rattle.numbers.specs.declared.Numbers.{Numbers}
use Rattle.numbers.specs.declared.ReleasedRun.{ReleasedRun}
use Rattle.numbers.specs.Seats.{in_use, step, Leads, ReleasesRun, ReleasesAcks}
use Rattle.numbers.proofs.Laws.{leads_hold}

-- ---- what stays

pub sifted_leads : {p : ℕ → Bool} {ns₀ ns : List ℕ} {i k : ℕ} → Sifted p ns₀ (length ns₀) ns i k → length ns₀ ≤ i → Leads (kept p ns₀) k ns
sifted_leads {p} {ns₀} s h =
    let a = sifted_all s h in
    let e : take (length ns₀) ns₀ ≡ ns₀ = take-length ns₀ in
    record { count = a.1 ∙ ap (λ (l : List ℕ). length (kept p l)) e; held = a.0 ∙ ap (kept p) e }

-- ---- what is listed

-- code 9
pub one-listed : (x : ℕ) (l l' : List ℕ) (n : ℕ) → l' ≡ placed l (4 * n) (9 ∷ x ∷ 0 ∷ 0 ∷ []) → Listed (send_ack x ∷ []) l n l' (n + 1)
unfolding flat listed
one-listed x l l' n e us = record { count = refl; words = λ at. e }

-- events that a loop has listed when i numbers are behind it, at most one for each
pub record Listing (es : List Event) (i : ℕ) (l₀ : List ℕ) (n : ℕ) (l : List ℕ) (m : ℕ) : Type 0 where
  pub few : m ≤ n + i
  pub same : length l ≡ length l₀
  pub listed : Listed es l₀ n l m

pub listing_none : (l : List ℕ) (n : ℕ) → Listing [] 0 l n l n
listing_none l n = record { few = omega arith; same = refl; listed = λ us. listed-none l n }

module _ {es : List Event} {i : ℕ} {l₀ : List ℕ} {n : ℕ} {l : List ℕ} {m : ℕ} (s : Listing es i l₀ n l m) (room : 4 * n ≤ length l₀) where
  pub listing_more : (fs : List Event) {l' : List ℕ} {m' : ℕ} → length fs ≤ 1 → length l' ≡ length l → Listed fs l m l' m'
      → Listing (es ++ fs) (i + 1) l₀ n l' m'
  listing_more fs {l'} {m'} h q x =
      record { few = omega (arith, (x []).count, s.few); same = q ∙ s.same; listed = λ us. listed_then room (s.listed us) (x us) }

-- the numbers that a test chooses, one more
module _ (p : ℕ → Bool) (l : List ℕ) (i : ℕ) (h : i < length l) where
  pub acks-next : map send_ack (kept p (take (i + 1) l)) ≡ map send_ack (kept p (take i l)) ++ map send_ack (kept p (get_or l i 0 ∷ []))
  acks-next = ap (map send_ack) (kept_next p l i 0 h) ∙ map-append send_ack (kept p (take i l)) (kept p (get_or l i 0 ∷ []))

pub all-next : (l : List ℕ) (i : ℕ) → i < length l → map send_ack (take (i + 1) l) ≡ map send_ack (take i l) ++ (send_ack (get_or l i 0) ∷ [])
all-next l i h = ap (λ (j : ℕ). map send_ack (take j l)) (add-one i) ∙ ap (map send_ack) (take-suc l i 0 h) ∙ map-append send_ack (take i l) (get_or l i 0 ∷ [])

-- one number, chosen or not
module _ (upto x : ℕ) where
  pub listed_one : {l l' : List ℕ} {n n' : ℕ} → EmittedIf (leb x upto) 9 x 0 0 l n l' n' → Listed (map send_ack (kept (releases_ack upto) (x ∷ []))) l n l' n'
  unfolding kept flat listed
  listed_one {l} {l'} {n} {n'} h us =
      subst (λ (es : List Event). ListedIn us es l n l' n') (go (leb x upto)) (emitted_listed us (send_ack x) (leb x upto) h (λ at. refl))
    where
      go : (t : Bool) → (if t then (send_ack x ∷ []) else []) ≡ map send_ack (if t then (x ∷ []) else [])
      go true = refl
      go false = refl

  pub one_at_most : length (map send_ack (kept (releases_ack upto) (x ∷ []))) ≤ 1
  unfolding kept
  one_at_most = go (leb x upto)
    where
      go : (t : Bool) → length (map send_ack (if t then (x ∷ []) else [])) ≤ 1
      go true = omega arith
      go false = omega arith

-- ---- both at once

pub record Releasing (upto : ℕ) (ns₀ list₀ : List ℕ) (n : ℕ) (list ns : List ℕ) (m k i : ℕ) : Type 0 where
  pub sifted : Sifted (ltb upto) ns₀ (length ns₀) ns i k
  pub listing : Listing (map send_ack (kept (releases_ack upto) (take i ns₀))) i list₀ n list m
  pub room : 4 * (n + length ns₀) ≤ length list₀

pub releasing_none : (upto : ℕ) (ns list : List ℕ) (n : ℕ) → 4 * (n + length ns) ≤ length list → Releasing upto ns list n list ns n 0 0
unfolding kept
releasing_none upto ns list n room =
    record { sifted = sifted_none (ltb upto) ns (length ns) (omega arith); listing = listing_none list n; room = room }

module _ {upto : ℕ} {ns₀ list₀ : List ℕ} {n : ℕ} {list ns : List ℕ} {m k i : ℕ} (s : Releasing upto ns₀ list₀ n list ns m k i) where
  pub releasing_more : {v m' : ℕ} {list' : List ℕ} → i < length ns₀ → v ≡ step (ltb upto (get_or ns i 0)) → length list' ≡ length list
      → Listed (map send_ack (kept (releases_ack upto) (get_or ns i 0 ∷ []))) list m list' m'
      → Releasing upto ns₀ list₀ n list' (set ns k (get_or ns i 0)) m' (k + v) (i + 1)
  releasing_more {v} {m'} {list'} h ev el x =
      let g = listing_more s.listing (omega (arith, s.room)) (map send_ack (kept (releases_ack upto) (get_or ns i 0 ∷ []))) (one_at_most upto (get_or ns i 0)) el x in
      let e : map send_ack (kept (releases_ack upto) (take i ns₀)) ++ map send_ack (kept (releases_ack upto) (get_or ns i 0 ∷ []))
      ≡ map send_ack (kept (releases_ack upto) (take (i + 1) ns₀)) =
      ap (λ (y : ℕ). map send_ack (kept (releases_ack upto) (take i ns₀)) ++ map send_ack (kept (releases_ack upto) (y ∷ []))) (sifted_at s.sifted 0 h)
      ∙ sym (acks-next (releases_ack upto) ns₀ i h) in
      record {
        sifted = sifted_more s.sifted 0 h v ev;
        listing = subst (λ (es : List Event). Listing es (i + 1) list₀ n list' m') e g;
        room = s.room;
      }

  pub releasing_all : length ns₀ ≤ i → ReleasesRun upto ns₀ list₀ n ns (record { count = k; events = m }) list
  releasing_all h =
      let e : take i ns₀ ≡ ns₀ = take_all i ns₀ h in
      record {
        leads = sifted_leads s.sifted h;
        few = omega (arith, s.listing.few, s.sifted.within);
        listed = subst (λ (ns : List ℕ). Listed (map send_ack (kept (releases_ack upto) ns)) list₀ n list m) e s.listing.listed;
      }

-- ---- each number

pub record ListingAll (ns list₀ : List ℕ) (n : ℕ) (list : List ℕ) (i : ℕ) : Type 0 where
  pub within : i ≤ length ns
  pub room : 4 * (n + length ns) ≤ length list₀
  pub listing : Listing (map send_ack (take i ns)) i list₀ n list (n + i)

pub all_unlisted : (ns list : List ℕ) (n : ℕ) → 4 * (n + length ns) ≤ length list → ListingAll ns list n list 0
all_unlisted ns list n room =
    let e : n ≡ n + 0 = omega arith in
    record { within = omega arith; room = room; listing = subst (λ (m : ℕ). Listing [] 0 list n list m) e (listing_none list n) }

module _ {ns list₀ : List ℕ} {n : ℕ} {list : List ℕ} {i : ℕ} (s : ListingAll ns list₀ n list i) where
  pub all_more : {list' : List ℕ} → i < length ns → length list' ≡ length list → list' ≡ placed list (4 * (n + i)) (9 ∷ get_or ns i 0 ∷ 0 ∷ 0 ∷ [])
      → ListingAll ns list₀ n list' (i + 1)
  all_more {list'} h el e =
      let x = one-listed (get_or ns i 0) list list' (n + i) e in
      let g = listing_more s.listing (omega (arith, s.room)) (send_ack (get_or ns i 0) ∷ []) (omega arith) el x in
      let em : n + i + 1 ≡ n + (i + 1) = omega arith in
      let ee : map send_ack (take i ns) ++ (send_ack (get_or ns i 0) ∷ []) ≡ map send_ack (take (i + 1) ns) = sym (all-next ns i h) in
      record { within = omega arith; room = s.room; listing = rw (← em, ← ee) g }

  pub all_listed : length ns ≤ i → Listed (map send_ack ns) list₀ n list (n + length ns)
  all_listed h =
      let e : i ≡ length ns = omega (arith, s.within) in
      let l : Listed (map send_ack (take (length ns) ns)) list₀ n list (n + length ns) =
      subst (λ (j : ℕ). Listed (map send_ack (take j ns)) list₀ n list (n + j)) e s.listing.listed in
      subst (λ (l : List ℕ). Listed (map send_ack l) list₀ n list (n + length ns)) (take-length ns) l

-- ---- the numbers in use, as a run that was lent

module _ (v : Numbers) (run : List ℕ) (few : v.count ≤ 512) (full : length v.values ≡ 512) (same : length run ≡ length (in_use v)) where
  pub released_acks : {upto n : ℕ} {l l' : List ℕ} {r : ReleasedRun} → ReleasesRun upto (in_use v) l n run r l'
      → ReleasesAcks upto v l n (record { numbers = record { values = run ++ drop v.count v.values; count = r.count }; events = r.events }) l'
  released_acks s =
      record {
        holds = leads_hold v.values run v.count few full same s.leads;
        few = omega (arith, length-take-le v.count v.values (omega arith), s.few);
        listed = s.listed;
      }
