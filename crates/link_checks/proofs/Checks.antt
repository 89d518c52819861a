-- The checks of data in place, test by test. Assumes nothing.
use mathlib.Core.Path.{◌≡◌, sym, ◌∙◌}
use mathlib.Core.Bool.{Bool, true, false}
use mathlib.Core.List.{List}
use Prim.Native.Nat.{ℕ, ◌+◌, ◌-◌, ◌≤◌, ◌<◌}
use native.Mathlib.Omega.{arith}
use lib.Dec.{ltb}
use Rattle.rules.specs.declared.Refusal.TheVariants.{BodyTooLong, GapTooWide, LastNumber, AcksFull}
use Rattle.rules.specs.Lists.{Bytes, has, any}
use Rattle.rules.specs.State.{is_frame}
use Rattle.queue.specs.View.{frames_of}
use Rattle.peer_session.specs.View.{state_of}
use Rattle.delivery.specs.Turns.{frame_of}
use Rattle.receiving.specs.declared.Verdict.TheVariants.{Refuse, Fail, Again, New}
use Rattle.receiving.proofs.Checks.{full-few, full-waits, full-queued, full-new, full-again, few_of, many_of, is-long, is_far, is_last, is-full, is-new, is-full-again, is-again}
use Rattle.parts.specs.Parts.{parts, at, queue_in, opened_of}
use Rattle.link_numbers.specs.Sets.{Lies, firsts}
use Rattle.link_numbers.proofs.Sets.{section-room}
use Rattle.link_checks.specs.Checks.{Countable, Filled, Judged}

-- ---- 26

module _ (n : ℕ) (w : List ℕ) (c : Countable w) where
  pub lies : Lies 272 (at w 5) w
  lies = record { within = omega arith; room = section-room 272 w c.waits.full; few = c.waits.few }

  pub filled-few : at w 5 + at w 4 < 512 → Filled n w false
  unfolding opened_of
  filled-few l = λ h b t o q e. full-few n (state_of (opened_of (parts w h b t)) o q) (few_of (opened_of (parts w h b t)) c.waits q e l)

  module _ (many : 512 ≤ at w 5 + at w 4) {r : Bool} (is : r ≡ has n (firsts 272 (at w 5) w)) where
    pub filled-waits : r ≡ true → Filled n w false
    unfolding opened_of
    filled-waits y = λ h b t o q e. full-waits n (state_of (opened_of (parts w h b t)) o q) (many_of (opened_of (parts w h b t)) c.waits q e many) (sym is ∙ y)

    module _ (out : r ≡ false) {s : Bool} (so : (h b : List ℕ) (o : Bytes) → s ≡ any (is_frame n) (frames_of (queue_in w h b) o)) where
      pub filled-queued : s ≡ true → Filled n w false
      unfolding opened_of
      filled-queued y = λ h b t o q e.
          full-queued n (state_of (opened_of (parts w h b t)) o q) (many_of (opened_of (parts w h b t)) c.waits q e many) (sym is ∙ out) (sym (so h b q) ∙ y)

      module _ (absent : s ≡ false) where
        pub filled-new : at w 2 < n → Filled n w true
        unfolding opened_of
        filled-new l = λ h b t o q e.
            full-new n (state_of (opened_of (parts w h b t)) o q) (many_of (opened_of (parts w h b t)) c.waits q e many) (sym is ∙ out) (sym (so h b q) ∙ absent) l

        pub filled-again : n ≤ at w 2 → Filled n w (ltb (at w 3) n)
        unfolding opened_of
        filled-again l = λ h b t o q e.
            full-again n (state_of (opened_of (parts w h b t)) o q) (many_of (opened_of (parts w h b t)) c.waits q e many) (sym is ∙ out) (sym (so h b q) ∙ absent) l

-- ---- the verdict

module _ (n len : ℕ) (w : List ℕ) where
  pub judged_long : at w 13 < len → Judged n len w (Fail BodyTooLong)
  unfolding opened_of
  judged_long l = λ h b t o q y k e z. is-long (frame_of n k y) (state_of (opened_of (parts w h b t)) o q) (omega arith)

  module _ (short : len ≤ at w 13) where
    module _ (new : at w 2 < n) where
      pub judged_far : at w 10 < n - (at w 2 + 1) → Judged n len w (Fail GapTooWide)
      unfolding opened_of
      judged_far l = λ h b t o q y k e z. is_far (frame_of n k y) (state_of (opened_of (parts w h b t)) o q) (omega arith) new l

      module _ (near : n - (at w 2 + 1) ≤ at w 10) where
        pub judged_last : 18446744073709551614 < n → Judged n len w (Refuse LastNumber)
        unfolding opened_of
        judged_last l = λ h b t o q y k e z. is_last (frame_of n k y) (state_of (opened_of (parts w h b t)) o q) (omega arith) new near l

        module _ (last : n ≤ 18446744073709551614) {r : Bool} (f : Filled n w r) where
          pub judged_full : r ≡ true → Judged n len w (Refuse AcksFull)
          unfolding opened_of
          judged_full x = λ h b t o q y k e z. is-full (frame_of n k y) (state_of (opened_of (parts w h b t)) o q) (omega arith) new near last (sym (f h b t o q e) ∙ x)

          pub judged_new : r ≡ false → Judged n len w New
          unfolding opened_of
          judged_new x = λ h b t o q y k e z. is-new (frame_of n k y) (state_of (opened_of (parts w h b t)) o q) (omega arith) new near last (sym (f h b t o q e) ∙ x)

    module _ (old : n ≤ at w 2) {r : Bool} (f : Filled n w r) where
      pub judged_full_again : r ≡ true → Judged n len w (Refuse AcksFull)
      unfolding opened_of
      judged_full_again x = λ h b t o q y k e z. is-full-again (frame_of n k y) (state_of (opened_of (parts w h b t)) o q) (omega arith) old (sym (f h b t o q e) ∙ x)

      pub judged_again : r ≡ false → Judged n len w Again
      unfolding opened_of
      judged_again x = λ h b t o q y k e z. is-again (frame_of n k y) (state_of (opened_of (parts w h b t)) o q) (omega arith) old (sym (f h b t o q e) ∙ x)
