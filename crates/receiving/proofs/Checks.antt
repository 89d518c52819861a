-- The checks of data, test by test, and what the rule book makes of them. Assumes nothing.
use Rattle.std.specs.Prelude.{if◌then◌else◌}
use mathlib.Core.Path.{◌≡◌, refl, sym, ap, subst}
use mathlib.Core.Bool.{Bool, true, false, not, ◌&&◌}
use mathlib.Core.List.{List, [], ◌∷◌}
use Prim.Native.Nat.{ℕ, ◌+◌, ◌-◌, ◌≤◌, ◌<◌}
use native.Mathlib.Omega.{arith}
use lib.ListN.{length}
use lib.Dec.{leb, ltb}
use borrow.Author.Tests.{le-leb, lt-leb, lt-ltb, le-ltb, leb-true, leb-false, ltb-true, ltb-false}
use Rattle.rules.specs.declared.HostStatus.{HostStatus}
use Rattle.rules.specs.declared.Refusal.TheVariants.{BodyTooLong, GapTooWide, LastNumber, AcksFull, GenerationsExhausted}
use Rattle.rules.specs.declared.Answer.TheVariants.{Flag, Refused}
use Rattle.rules.specs.Lists.{Bytes, every, has}
use Rattle.rules.specs.State.{Frame, State}
use Rattle.rules.specs.Progress.{◌then◌, failing, outcome, answers, ◌refuses◌when◌else◌, ◌fails◌when◌else◌}
use Rattle.rules.specs.Receiving.{duplicate, queued, too_long, too_far, past_last, acks_full, queue_full, queue_overrun, at_once, from_ahead, receive, receive_data, joins_queue}
use Rattle.rules.specs.Buffers.{queue_end, queue_reach}
use Rattle.rules.specs.Calls.{gets_data, step}
use Rattle.numbers.specs.Seats.{in_use, ExactNumbers}
use Rattle.numbers.proofs.Laws.{exact-length}
use Rattle.queue.specs.View.{frames_of, ExactQueue}
use Rattle.queue.proofs.View.{frames-length}
use Rattle.peer_session.specs.declared.SessionState.{SessionState}
use Rattle.receiving.specs.declared.Verdict.{Verdict}
use Rattle.receiving.specs.declared.Verdict.TheVariants.{Refuse, Fail, Again, New}
use Rattle.receiving.specs.Checks.{verdict_of, again, anew, ruled, joins, reached, NewFrame}

-- ---- 26

below_not : (a b : ℕ) → ltb a b ≡ not (leb b a)
below_not a b = go (ltb a b) refl
  where
    go : (t : Bool) → ltb a b ≡ t → t ≡ not (leb b a)
    go true e = sym (ap not (lt-leb b a (ltb-true a b e)))
    go false e = sym (ap not (le-leb b a (ltb-false a b e)))

module _ (n : ℕ) (t : State) where
  pub full-few : length t.inbox.waiting + length t.inbox.queue < 512 → false ≡ acks_full n t
  unfolding acks_full
  full-few h = rw (lt-leb 512 (length t.inbox.waiting + length t.inbox.queue) h)

  module _ (many : 512 ≤ length t.inbox.waiting + length t.inbox.queue) where
    pub full-waits : has n t.inbox.waiting ≡ true → false ≡ acks_full n t
    unfolding acks_full
    full-waits e = rw (le-leb 512 (length t.inbox.waiting + length t.inbox.queue) many, e)

    module _ (w : has n t.inbox.waiting ≡ false) where
      pub full-queued : queued n t ≡ true → false ≡ acks_full n t
      unfolding acks_full
      full-queued e = rw (le-leb 512 (length t.inbox.waiting + length t.inbox.queue) many, w, e)

      module _ (q : queued n t ≡ false) where
        pub full-new : t.inbox.remote < n → true ≡ acks_full n t
        unfolding acks_full
        full-new h = rw (le-leb 512 (length t.inbox.waiting + length t.inbox.queue) many, w, q, lt-leb n t.inbox.remote h)

        pub full-again : n ≤ t.inbox.remote → ltb t.inbox.released n ≡ acks_full n t
        unfolding acks_full
        full-again h =
            rw (le-leb 512 (length t.inbox.waiting + length t.inbox.queue) many, w, q, le-leb n t.inbox.remote h) (below_not t.inbox.released n)

-- the lengths are in the counts
module _ (s : SessionState) (w : ExactNumbers s.waiting) (q : Bytes) (e : ExactQueue s.queue (length q)) where
  pub few_of : s.waiting.count + s.queue.count < 512 → length (in_use s.waiting) + length (frames_of s.queue q) < 512
  few_of h = omega (arith, exact-length s.waiting w, frames-length s.queue q e)

  pub many_of : 512 ≤ s.waiting.count + s.queue.count → 512 ≤ length (in_use s.waiting) + length (frames_of s.queue q)
  many_of h = omega (arith, exact-length s.waiting w, frames-length s.queue q e)

-- ---- the verdict

module _ (f : Frame) (t : State) where
  pub is-long : t.fixed.policy.body < length f.body → Fail BodyTooLong ≡ verdict_of f t
  is-long h = rw (lt-ltb t.fixed.policy.body (length f.body) h)

  module _ (short : length f.body ≤ t.fixed.policy.body) where
    module _ (new : t.inbox.remote < f.number) where
      pub is_far : t.fixed.policy.gap < f.number - (t.inbox.remote + 1) → Fail GapTooWide ≡ verdict_of f t
      is_far h =
          rw (le-ltb t.fixed.policy.body (length f.body) short, lt-leb f.number t.inbox.remote new, lt-ltb t.fixed.policy.gap (f.number - (t.inbox.remote + 1)) h)

      module _ (near : f.number - (t.inbox.remote + 1) ≤ t.fixed.policy.gap) where
        pub is_last : 18446744073709551614 < f.number → Refuse LastNumber ≡ verdict_of f t
        is_last h =
            rw (le-ltb t.fixed.policy.body (length f.body) short, lt-leb f.number t.inbox.remote new, le-ltb t.fixed.policy.gap (f.number - (t.inbox.remote + 1)) near, lt-ltb 18446744073709551614 f.number h)

        module _ (last : f.number ≤ 18446744073709551614) where
          pub is-full : acks_full f.number t ≡ true → Refuse AcksFull ≡ verdict_of f t
          is-full e =
              rw (le-ltb t.fixed.policy.body (length f.body) short, lt-leb f.number t.inbox.remote new, le-ltb t.fixed.policy.gap (f.number - (t.inbox.remote + 1)) near, le-ltb 18446744073709551614 f.number last, e)

          pub is-new : acks_full f.number t ≡ false → New ≡ verdict_of f t
          is-new e =
              rw (le-ltb t.fixed.policy.body (length f.body) short, lt-leb f.number t.inbox.remote new, le-ltb t.fixed.policy.gap (f.number - (t.inbox.remote + 1)) near, le-ltb 18446744073709551614 f.number last, e)

    module _ (old : f.number ≤ t.inbox.remote) where
      pub is-full-again : acks_full f.number t ≡ true → Refuse AcksFull ≡ verdict_of f t
      is-full-again e = rw (le-ltb t.fixed.policy.body (length f.body) short, le-leb f.number t.inbox.remote old, e)

      pub is-again : acks_full f.number t ≡ false → Again ≡ verdict_of f t
      is-again e = rw (le-ltb t.fixed.policy.body (length f.body) short, le-leb f.number t.inbox.remote old, e)

-- ---- what the rule book makes of it

module _ (status : HostStatus) (f : Frame) (t : State) (known : f.kind ≤ 2) where
  pub spent : 4294966000 ≤ t.clock.generation → step (gets_data status f) t ≡ outcome t (Refused GenerationsExhausted) []
  unfolding step receive_data
  spent h = rw (le-ltb 2 f.kind known, le-leb 4294966000 t.clock.generation h)

  pub spent_reach : 4294966000 ≤ t.clock.generation → queue_reach (gets_data status f) t ≡ queue_end t
  unfolding queue_reach joins_queue
  spent_reach h = rw (le-leb f.kind 2 known, le-leb 4294966000 t.clock.generation h)

  module _ (low : t.clock.generation < 4294966000) where
    pub as_ruled : step (gets_data status f) t ≡ ruled (verdict_of f t) status f t
    unfolding step receive_data receive failing
    as_ruled =
        rw (le-ltb 2 f.kind known, lt-leb 4294966000 t.clock.generation low)
        (go (too_long f t) (too_far f t) (past_last f t) (acks_full f.number t) (duplicate f.number t))
      where
        go : (a b c d e : Bool)
            → (t fails BodyTooLong when a else
            t fails GapTooWide when b else
            t refuses LastNumber when c else
            t refuses AcksFull when d else
            answers (Flag true) (failing (if e then again f.number t else anew status f t)))
            ≡ ruled (if a then Fail BodyTooLong else if b then Fail GapTooWide else if c then Refuse LastNumber else if d then Refuse AcksFull else if e then Again else New) status f t
        go true b c d e = refl
        go false true c d e = refl
        go false false true d e = refl
        go false false false true e = refl
        go false false false false true = refl
        go false false false false false = refl

    pub as_reached : queue_reach (gets_data status f) t ≡ reached (verdict_of f t) status f t
    unfolding queue_reach joins_queue
    as_reached =
        rw (le-leb f.kind 2 known, lt-leb 4294966000 t.clock.generation low)
        (go (too_long f t) (too_far f t) (past_last f t) (acks_full f.number t) (duplicate f.number t)
        (not (at_once status f t) ∷ not (from_ahead status f t) ∷ not (queued f.number t) ∷ not (queue_full t) ∷ not (queue_overrun f t) ∷ []) refl)
      where
        go : (a b c d e : Bool) (ts : List Bool) → every ts ≡ joins status f t
            → (if every (not a ∷ not e ∷ not b ∷ not c ∷ not d ∷ ts) then queue_end t + length f.body else queue_end t)
            ≡ reached (if a then Fail BodyTooLong else if b then Fail GapTooWide else if c then Refuse LastNumber else if d then Refuse AcksFull else if e then Again else New) status f t
        go true b c d e ts h = refl
        go false true c d true ts h = refl
        go false true c d false ts h = refl
        go false false true d true ts h = refl
        go false false true d false ts h = refl
        go false false false true true ts h = refl
        go false false false true false ts h = refl
        go false false false false true ts h = refl
        go false false false false false ts h = ap (λ (z : Bool). if z then queue_end t + length f.body else queue_end t) h

-- ---- what is known of a frame by its verdict

module _ (f : Frame) (t : State) where
  abbrev by_tests : Bool → Bool → Bool → Bool → Bool → Verdict
  by_tests a b c d e = if a then Fail BodyTooLong else if b then Fail GapTooWide else if c then Refuse LastNumber else if d then Refuse AcksFull else if e then Again else New

  new_tests : (a b c d e : Bool) → by_tests a b c d e ≡ New → (a ≡ false) × (c ≡ false) × (d ≡ false) × (e ≡ false)
  new_tests true b c d e h = let z : ◌≡◌ {A = ℕ} 0 1 = cc in absurd (omega arith)
  new_tests false true c d e h = let z : ◌≡◌ {A = ℕ} 0 1 = cc in absurd (omega arith)
  new_tests false false true d e h = let z : ◌≡◌ {A = ℕ} 0 1 = cc in absurd (omega arith)
  new_tests false false false true e h = let z : ◌≡◌ {A = ℕ} 0 1 = cc in absurd (omega arith)
  new_tests false false false false true h = let z : ◌≡◌ {A = ℕ} 0 1 = cc in absurd (omega arith)
  new_tests false false false false false h = (refl, refl, refl, refl)

  again_tests : (a b c d e : Bool) → by_tests a b c d e ≡ Again → (d ≡ false) × (e ≡ true)
  again_tests true b c d e h = let z : ◌≡◌ {A = ℕ} 0 1 = cc in absurd (omega arith)
  again_tests false true c d e h = let z : ◌≡◌ {A = ℕ} 0 1 = cc in absurd (omega arith)
  again_tests false false true d e h = let z : ◌≡◌ {A = ℕ} 0 1 = cc in absurd (omega arith)
  again_tests false false false true e h = let z : ◌≡◌ {A = ℕ} 0 1 = cc in absurd (omega arith)
  again_tests false false false false true h = (refl, refl)
  again_tests false false false false false h = let z : ◌≡◌ {A = ℕ} 0 1 = cc in absurd (omega arith)

  pub new-frame : f.kind ≤ 2 → verdict_of f t ≡ New → NewFrame f t
  new-frame k h =
      let x = new_tests (too_long f t) (too_far f t) (past_last f t) (acks_full f.number t) (duplicate f.number t) h in
      let n : t.inbox.remote < f.number = leb-false _ _ x.3 in
      record {
        kind = k;
        new = n;
        last = ltb-false 18446744073709551614 f.number (subst (λ (z : Bool). (not z && ltb 18446744073709551614 f.number) ≡ false) x.3 x.1);
        short = ltb-false _ _ x.0;
        room = x.2;
      }

  pub old_frame : verdict_of f t ≡ Again → (f.number ≤ t.inbox.remote) × (acks_full f.number t ≡ false)
  old_frame h =
      let x = again_tests (too_long f t) (too_far f t) (past_last f t) (acks_full f.number t) (duplicate f.number t) h in
      (leb-true _ _ x.1, x.0)
