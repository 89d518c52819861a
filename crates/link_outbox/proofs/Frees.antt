-- What a commit releases, and what is sent anew. Assumes nothing.
use mathlib.Core.Path.{◌≡◌, refl, sym, ap, ◌∙◌, subst}
use mathlib.Core.Bool.{Bool, true, false, not}
use mathlib.Core.List.{List, map}
use Prim.Native.Nat.{ℕ, ◌+◌, ◌*◌, ◌≤◌, ◌<◌}
use native.Mathlib.Omega.{arith}
use lib.ListN.{length, get_or}
use Rattle.rules.specs.Lists.{Bytes}
use Rattle.rules.specs.State as R
use Rattle.rules.specs.Commits as C
use Rattle.rules.proofs.Events.{start-release}
use Rattle.events.specs.Emitted.{EmittedIf}
use Rattle.outbox.specs.declared.Unacked.{Unacked}
use Rattle.outbox.specs.View.{unacked_of, unacked, blank_u}
use Rattle.outbox.specs.Records.{releases_u, released_u, release_u}
use Rattle.outbox.specs.Sound.{sound_outbox_of}
use Rattle.outbox.proofs.Flags.{release-flags}
use Rattle.outbox.proofs.Listings.{Listing, listing_none, listing-next, listing-all, listed-starts}
use Rattle.outbox.proofs.View.{sound_facts}
use Rattle.parts.specs.Seats.{seats}
use Rattle.parts.specs.Parts.{at, unacked_at, outbox_in}
use Rattle.parts.specs.Frames.{Past}
use Rattle.parts.proofs.Seats.{length-seats, get_d_seats}
use Rattle.link_outbox.specs.Steps.{Frees, freed}
use Rattle.link_outbox.proofs.Records.{by_eq, past_same, twice_low, twice_high, twice_other, past-set, unacked-same, flagged-seats}

pub not_not : (t : Bool) → not (not t) ≡ t
not_not true = refl
not_not false = refl

-- ---- a turn of a release

module _ (h b : List ℕ) (i : ℕ) (k : i < 256) where
  freed-at : (goes : Bool) → length b ≡ 4936 → unacked_at h (freed goes i b) i ≡ released_u goes (unacked_at h b i)
  freed-at true lb =
      let p : at (freed true i b) i ≡ 0 = twice_low b i 0 1 k (omega arith) in
      let q : at (freed true i b) (256 + i) ≡ 1 = twice_high b i 0 1 k (omega arith) in
      rw (p, q)
  freed-at false lb = refl

  freed-other : (goes : Bool) (j : ℕ) → j < 256 → (j ≡ i → ⊥) → unacked_at h (freed goes i b) j ≡ unacked_at h b j
  freed-other true j r not =
      unacked-same h b h (freed true i b) j refl refl
      (twice_other b i 0 1 k j not (λ e. omega arith)) (twice_other b i 0 1 k (256 + j) (λ e. omega arith) (λ e. not (omega arith)))
  freed-other false j r not = refl

  freed-past : (goes : Bool) (b₀ : List ℕ) → Past 512 b₀ b → Past 512 b₀ (freed goes i b)
  freed-past true b₀ p = past-set (past-set p i 0 (omega arith)) (256 + i) 1 (omega arith)
  freed-past false b₀ p = p

-- what the loop keeps: the flags of the records before index i are changed
pub record Freeing (upto : ℕ) (h b₀ b : List ℕ) (i : ℕ) : Type 0 where
  pub full : length b ≡ 4936
  pub past : Past 512 b₀ b
  pub done : (j : ℕ) → j < i → j < 256 → unacked_at h b j ≡ release_u upto (unacked_at h b₀ j)
  pub rest : (j : ℕ) → i ≤ j → j < 256 → unacked_at h b j ≡ unacked_at h b₀ j

pub freeing_none : (upto : ℕ) (h b : List ℕ) → length b ≡ 4936 → Freeing upto h b b 0
freeing_none upto h b lb =
    record { full = lb; past = past_same 512 b; done = λ j k r. absurd (omega arith); rest = λ j k r. refl }

module _ {upto : ℕ} {h b₀ b : List ℕ} {i : ℕ} (g : Freeing upto h b₀ b i) where
  pub freeing_more : (k : i < 256) (goes : Bool) → goes ≡ releases_u upto (unacked_at h b i) → (b' : List ℕ) → b' ≡ freed goes i b → Freeing upto h b₀ b' (i + 1)
  freeing_more k goes e b' eb =
      subst (λ (x : List ℕ). Freeing upto h b₀ x (i + 1)) (sym eb)
      (record {
        full = (freed-past h b i k goes b₀ g.past).size ∙ sym g.past.size ∙ g.full;
        past = freed-past h b i k goes b₀ g.past;
        done = λ j l r. by_eq j i
            (λ is.
            ap (unacked_at h (freed goes i b)) is
            ∙ freed-at h b i k goes g.full
            ∙ ap (λ (t : Bool). released_u t (unacked_at h b i)) e
            ∙ ap (release_u upto) (g.rest i (omega arith) k)
            ∙ ap (λ (x : ℕ). release_u upto (unacked_at h b₀ x)) (sym is))
            (λ not. freed-other h b i k goes j r not ∙ g.done j (omega arith) r);
        rest = λ j l r. freed-other h b i k goes j r (λ is. omega arith) ∙ g.rest j (omega arith) r;
      })

-- ---- sends that are listed

module _ (w h b : List ℕ) where
  pub listing_start : (p : R.Unacked → Bool) (l : List ℕ) (n : ℕ) → sound_outbox_of (outbox_in w h b) ≡ true → 4 * (n + at w 1) ≤ length l
      → Listing p (outbox_in w h b) l n l n 0 0
  listing_start p l n s room = listing_none p (outbox_in w h b) l n (sound_facts (outbox_in w h b) s) (length-seats 256 (unacked_at h b)) room

  module _ {p : R.Unacked → Bool} {l₀ : List ℕ} {n : ℕ} {l : List ℕ} {k from i : ℕ} (g : Listing p (outbox_in w h b) l₀ n l k from i) (lt : i < at w 1) where
    is_seat : unacked_at h b i ≡ get_or (seats 256 (unacked_at h b)) i blank_u
    is_seat = sym (get_d_seats 256 (unacked_at h b) i blank_u (omega (arith, g.sound.few)))

    -- b' are the flags as they are when the record is looked at
    pub listing-turn : (q : Unacked → Bool) → ((u : Unacked) (s : Bytes) → p (unacked u s) ≡ q u) → (b' : List ℕ) → unacked_at h b' i ≡ unacked_at h b i
        → (t : Bool) → t ≡ q (unacked_at h b' i) → (l' : List ℕ) (k' : ℕ) → length l' ≡ length l → EmittedIf t 8 (at h i) from (at h (256 + i)) l k l' k'
        → (s : ℕ) → s ≡ at h (256 + i) → Listing p (outbox_in w h b) l₀ n l' k' (from + s) (i + 1)
    listing-turn q agrees b' same t et l' k' el sn s es =
        subst (λ (x : ℕ). Listing p (outbox_in w h b) l₀ n l' k' (from + x) (i + 1)) (sym es)
        (listing-next g lt q agrees (unacked_at h b' i) (same ∙ is_seat) t et l' k' el sn)

  pub frees : {upto : ℕ} {l₀ : List ℕ} {n : ℕ} {l : List ℕ} {k from i : ℕ} {b' : List ℕ} → Freeing upto h b b' i
      → Listing (C.releases upto) (outbox_in w h b) l₀ n l k from i → at w 1 ≤ i → Frees upto w h b l₀ n b' l k
  frees {upto} {i = i} {b' = b'} f g stop =
      record {
        released =
            record {
              flagged = flagged-seats (release-flags upto) w h b b' g.sound.few (λ j r. f.done j (omega arith) (omega (arith, g.sound.few)));
              few = omega (arith, g.few, g.within);
              listed = λ o e.
                  listed-starts (unacked_of (outbox_in w h b) o) (map (C.release upto) (unacked_of (outbox_in w h b) o)) (λ m. sym (start-release upto m (unacked_of (outbox_in w h b) o)))
                  (listing-all g stop o e);
            };
        bytes = f.past;
      }
