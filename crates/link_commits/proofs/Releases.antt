-- The steps of a completed commit, by what they leave of the parts. Assumes nothing.
use Prim.Native.Nat.{ℕ, ◌+◌, ◌≤◌, ◌<◌, max}
use mathlib.Core.Path.{◌≡◌, refl, sym, ap, ◌∙◌, subst}
use mathlib.Core.Bool.{Bool, true, false}
use mathlib.Core.List.{List, []}
use native.Mathlib.Omega.{arith}
use lib.Ieee.{Float}
use lib.ListN.{length, set, length-set}
use lib.Seq.{get_or-set_same}
use Rattle.rules.specs.declared.Clock.{Clock}
use Rattle.rules.specs.declared.PreparedCommit.{PreparedCommit}
use Rattle.rules.specs.State as R
use Rattle.numbers.specs.Seats.{ReleasesAcks}
use Rattle.outbox.specs.Steps.{Releases}
use Rattle.peer_session.specs.declared.SessionState.{SessionState}
use Rattle.peer_session.specs.View.{state_of}
use Rattle.session.proofs.Clocks.{clocked}
use Rattle.commits.specs.Releases.{Persists, MayRelease, ReleasesBy}
use Rattle.commits.proofs.Releases as C
use Rattle.parts.specs.Parts.{parts, at, outbox_in, waiting_in, retry_in, clock_in, handoff_in, opened_of}
use Rattle.parts.specs.Frames.{Past, Only}
use Rattle.parts.proofs.Fields.{Agree, agree_past, agree_set, agree_then, agree_only, agree_above, outbox-same, numbers-same, handoff-same}
use Rattle.parts.proofs.After.{Kept, other, after, agree_all}
use Rattle.link_commits.specs.Completes.{MayReleaseIn, ReleasesIn}

-- ---- persisted

abbrev clock-at : ℕ → Clock → Clock
clock-at g x = record { last_replay_at = x.last_replay_at; generation = x.generation; released = x.released; persisted = g }

-- nothing else of the clock changes
persists_alone : (p : Bool) (c : PreparedCommit) (k : Clock) (t : R.State) → Persists p c t.clock k → k ≡ clock-at k.persisted t.clock
persists_alone true c k t p =
    let f : k ≡ clock-at (max t.clock.persisted c.generation) t.clock = ap (λ (s : R.State). s.clock) (p t refl) in
    f ∙ ap (λ (g : ℕ). clock-at g t.clock) (sym (ap (λ (y : Clock). y.persisted) f))
persists_alone false c k t p =
    let f : k ≡ t.clock = ap (λ (s : R.State). s.clock) (p t refl) in
    f ∙ ap (λ (g : ℕ). clock-at g t.clock) (sym (ap (λ (y : Clock). y.persisted) f))

module _ (w h b : List ℕ) (t : Float) (lw : 1296 ≤ length w) (lh : 772 ≤ length h) (lb : 4936 ≤ length b) where
  module _ (g : ℕ) where
    agrees : (c d : ℕ) → (c ≤ 770 → 770 < d → ⊥) → Agree c d h (set h 770 g)
    agrees c d out = agree_set h 770 g c d out

    clock_persisted : clock_in (set h 770 g) t ≡ clock-at g (clock_in h t)
    clock_persisted =
        let x : at (set h 770 g) 768 ≡ at h 768 = (agrees 768 769 (λ p q. omega arith)).same 768 (omega arith) (omega arith) in
        let y : at (set h 770 g) 769 ≡ at h 769 = (agrees 769 770 (λ p q. omega arith)).same 769 (omega arith) (omega arith) in
        let z : at (set h 770 g) 770 ≡ g = get_or-set_same h 770 g 0 (omega arith) in
        rw (x, y, z)

    stays : Kept w h b w (set h 770 g) b
    stays =
        record {
          words = refl;
          bytes = refl;
          remote = agree_all 2 3 w;
          queued = agree_all 4 5 w;
          rest = agree_all 7 272 w;
          lens = agrees 512 768 (λ p q. omega arith);
          terms = agrees 771 772 (λ p q. omega arith);
          codes = agree_all 512 773 b;
          bodies = agree_all 776 4936 b;
        }

    persisted_at : opened_of (parts w (set h 770 g) b t) ≡ clocked (clock-at g (clock_in h t)) (opened_of (parts w h b t))
    unfolding opened_of
    persisted_at =
        after w h b w (set h 770 g) b t t lb stays (outbox-same (agree_all 0 2 w) (agrees 0 512 (λ p q. omega arith)) (agree_all 0 512 b)) refl refl refl clock_persisted refl

  -- with the generation that is persisted now
  pub persisted : (p : Bool) (c : PreparedCommit) (k : Clock) → Persists p c (clock_in h t) k
      → opened_of (parts w (set h 770 k.persisted) b t) ≡ clocked k (opened_of (parts w h b t))
  unfolding opened_of
  persisted p c k e =
      let f : k ≡ clock-at k.persisted (clock_in h t) = persists_alone p c k (state_of (opened_of (parts w h b t)) [] []) e in
      persisted_at k.persisted ∙ ap (λ (y : Clock). clocked y (opened_of (parts w h b t))) (sym f)

-- ---- released

module _ (c : PreparedCommit) (w h b : List ℕ) (t : Float) (lw : 1296 ≤ length w) (lh : 772 ≤ length h) (lb : 4936 ≤ length b)
    (w₁ b' : List ℕ) (only : Only 272 5 w w₁) (past : Past 512 b b') where
  abbrev words : List ℕ
  words = set w₁ 3 c.remote

  abbrev halves : List ℕ
  halves = set h 769 c.generation

  size : length words ≡ length w
  size = length-set w₁ 3 c.remote ∙ only.size

  below : (i j : ℕ) → j ≤ 272 → (i ≤ 5 → 5 < j → ⊥) → (i ≤ 3 → 3 < j → ⊥) → Agree i j w words
  below i j k five three = agree_then (agree_only i j only k five) (agree_set w₁ 3 c.remote i j three)

  agrees_h : (i j : ℕ) → (i ≤ 769 → 769 < j → ⊥) → Agree i j h halves
  agrees_h i j out = agree_set h 769 c.generation i j out

  clock-released : clock_in halves t ≡ record { last_replay_at = t; generation = at h 768; released = c.generation; persisted = at h 770 }
  clock-released =
      let x : at halves 768 ≡ at h 768 = (agrees_h 768 769 (λ p q. omega arith)).same 768 (omega arith) (omega arith) in
      let y : at halves 769 ≡ c.generation = get_or-set_same h 769 c.generation 0 (omega arith) in
      let z : at halves 770 ≡ at h 770 = (agrees_h 770 771 (λ p q. omega arith)).same 770 (omega arith) (omega arith) in
      rw (x, y, z)

  stays-released : Kept w h b words halves b'
  stays-released =
      record {
        words = size;
        bytes = past.size;
        remote = below 2 3 (omega arith) (λ p q. omega arith) (λ p q. omega arith);
        queued = below 4 5 (omega arith) (λ p q. omega arith) (λ p q. omega arith);
        rest = below 7 272 (omega arith) (λ p q. omega arith) (λ p q. omega arith);
        lens = agrees_h 512 768 (λ p q. omega arith);
        terms = agrees_h 771 772 (λ p q. omega arith);
        codes = agree_past 512 773 (omega arith) past;
        bodies = agree_past 776 4936 (omega arith) past;
      }

  left : opened_of (parts words halves b' t)
      ≡ other (opened_of (parts w h b t)) (outbox_in w h b') c.remote (waiting_in w₁) (retry_in w)
      (record { last_replay_at = t; generation = at h 768; released = c.generation; persisted = at h 770 }) (handoff_in w b)
  left =
      after w h b words halves b' t t lb stays-released
      (outbox-same (below 0 2 (omega arith) (λ p q. omega arith) (λ p q. omega arith)) (agrees_h 0 512 (λ p q. omega arith)) (agree_all 0 512 b'))
      (get_or-set_same w₁ 3 c.remote 0 (omega (arith, only.size)))
      (numbers-same (omega (arith, only.size)) (length-set w₁ 3 c.remote) (agree_set w₁ 3 c.remote 5 (5 + 1) (λ p q. omega arith)) (agree_set w₁ 3 c.remote 272 (272 + 512) (λ p q. omega arith)))
      (numbers-same (omega arith) size (below 6 (6 + 1) (omega arith) (λ p q. omega arith) (λ p q. omega arith))
      (agree_then (agree_above 784 (784 + 512) only (omega arith)) (agree_set w₁ 3 c.remote 784 (784 + 512) (λ p q. omega arith))))
      clock-released
      (handoff-same (omega arith) past.size (below 7 10 (omega arith) (λ p q. omega arith) (λ p q. omega arith)) (agree_past 773 4872 (omega arith) past))

-- what the driver's release asks
asks : (w h b : List ℕ) (t : Float) {n : ℕ} → MayReleaseIn w h b n → MayRelease (opened_of (parts w h b t)) n
unfolding opened_of
asks w h b t m = record { sound = m.sound; messages = m.messages; acks = m.acks.few; room = m.room }

module _ (c : PreparedCommit) (w h b l : List ℕ) where
  pub released-before : c.generation ≤ at h 769 → ReleasesIn c w h b l w h b l 0
  unfolding opened_of
  released-before e t = C.released-before c (opened_of (parts w h b t)) l e

  pub released_now : at h 769 < c.generation → MayReleaseIn w h b (length l) → (w₁ b' l₁ l₂ : List ℕ) (n m : ℕ)
      → Releases c.outbound (outbox_in w h b) l 0 (record { outbox = outbox_in w h b'; events = n }) l₁ → Past 512 b b'
      → ReleasesAcks c.remote (waiting_in w) l₁ n (record { numbers = waiting_in w₁; events = m }) l₂ → Only 272 5 w w₁
      → ReleasesIn c w h b l (set w₁ 3 c.remote) (set h 769 c.generation) b' l₂ m
  unfolding opened_of
  released_now e may w₁ b' l₁ l₂ n m r past a only t =
      subst (λ (s : SessionState). ReleasesBy c (opened_of (parts w h b t)) l (record { session = s; events = m }) l₂)
      (sym (left c w h b t may.words may.halves may.bytes w₁ b' only past))
      (C.released_now c (opened_of (parts w h b t)) l (record { outbox = outbox_in w h b'; events = n }) (record { numbers = waiting_in w₁; events = m }) l₁ l₂ e (asks w h b t may) r a)
