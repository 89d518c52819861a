-- `restore`, test by test, and how it meets its promise. Assumes nothing.
use Rattle.std.specs.Prelude.{if◌then◌else◌}
use mathlib.Core.Path.{◌≡◌, refl, sym, ap, ◌∙◌}
use mathlib.Core.Bool.{Bool, true, false, not, ◌&&◌}
use mathlib.Core.List.{List, [], ◌∷◌}
use mathlib.Core.Option.{Option}
use Prim.Native.Nat.{ℕ, ◌≤◌, ◌<◌}
use native.Mathlib.Omega.{arith}
use lib.ListN.{length, replicate, length-replicate}
use lib.Seq.{length-take-le}
use lib.Dec.{eqb}
use borrow.Author.Tests.{lt-ltb, le-ltb, eq-eqb, ne_eqb}
use Rattle.rules.specs.declared.Answer.TheVariants.{Done, Refused}
use Rattle.rules.specs.declared.Refusal.{Refusal}
use Rattle.rules.specs.declared.Refusal.TheVariants.{ShortBuffer, UnknownCode, BadRecord, HandoffTooLong, RestoreTooLate}
use Rattle.rules.specs.Lists.{Bytes, empty, packed}
use Rattle.rules.specs.State as R
use Rattle.rules.specs.State.{body_of}
use Rattle.rules.specs.Progress.{Outcome, outcome, answers, ◌refuses◌when◌else◌}
use Rattle.rules.specs.Start.{Reliable, good_record, handoff_size, too_late, restored, restore_terminal, restore}
use Rattle.rules.specs.Calls.{Call, restores, step}
use Rattle.rules.specs.Buffers.{Lent, taken_by, short, wrong_code, repacked, queue_reach}
use Rattle.events.proofs.Laws.{listed-none}
use Rattle.outbox.specs.declared.Outbox.{Outbox}
use Rattle.outbox.specs.View.{end_u, unacked_of}
use Rattle.queue.specs.View.{frames_of}
use Rattle.queue.proofs.View.{frames-length}
use Rattle.numbers.specs.Seats.{in_use}
use Rattle.peer_session.specs.declared.SessionState.{SessionState}
use Rattle.peer_session.specs.View.{held, handoff_length, state_of, Exact}
use Rattle.peer_session.specs.Sound.{sound_of, Full}
use Rattle.peer_session.proofs.View.{parts}
use Rattle.session.specs.declared.Returned.{Returned}
use Rattle.session.specs.Promise.{exit, lent, unchanged, promise, Called, Turned}
use Rattle.session.proofs.Lengths.{short-outbound, long-enough, not_taken}
use Rattle.session.proofs.Entry.{Entered, entered, is-short, is_wrong}
use Rattle.setup.proofs.Lending.{Plain, unsound, refused, comes}
use Rattle.setup.proofs.Steps.{turned_is}
use Rattle.starts.specs.declared.Reliable as Starts
use Rattle.starts.specs.Started.{short_record}
use Rattle.starts.specs.Records.{reliable_of}
use Rattle.starts.proofs.Messages.{Long, long_record}
use Rattle.starts.proofs.Checks.{good-fitting}
use Rattle.restores.specs.Restored.{restore_promise, RestoredBy}
use Rattle.restores.specs.Steps.{Taking, Takes, Ends}

-- ---- refusal 28

-- by the counts
pub empty-count : {A : Type 0} (l : List A) (n : ℕ) → length l ≡ n → empty l ≡ eqb n 0
empty-count [] n e = sym (eq-eqb n 0 (sym e))
empty-count (x ∷ xs) n e = sym (ne_eqb n 0 (λ z. omega arith))

pub late_is : (s : SessionState) (o q : Bytes) → Exact s (length o) (length q)
    → too_late (state_of s o q) ≡ not (eqb s.clock.generation 0 && eqb s.queue.count 0 && eqb s.waiting.count 0)
late_is s o q e =
    let w : length (in_use s.waiting) ≡ s.waiting.count = length-take-le s.waiting.count s.waiting.values (omega (arith, e.rest.waiting.full, e.rest.waiting.few)) in
    ap (λ (t : Bool). not (eqb s.clock.generation 0 && t && empty (in_use s.waiting))) (empty-count (frames_of s.queue q) s.queue.count (frames-length s.queue q e.queued))
    ∙ ap (λ (t : Bool). not (eqb s.clock.generation 0 && eqb s.queue.count 0 && t)) (empty-count (in_use s.waiting) s.waiting.count w)

-- ---- the rule

abbrev restoring : Reliable → Option R.Handoff → R.State → Outcome
restoring r h t = answers Done (restore_terminal h (restored r t))

module _ (r : Reliable) (h : Option R.Handoff) where
  plain : r.disposition ≤ 4 → Plain (restores r h) false true false
  unfolding taken_by wrong_code queue_reach
  plain k = record { taken = refl; known = le-ltb 4 r.disposition k; reach = λ t. refl }

  module _ (t : R.State) (known : r.disposition ≤ 4) where
    rule_bad : good_record r ≡ false → step (restores r h) t ≡ outcome t (Refused BadRecord) []
    unfolding step restore
    rule_bad e = rw (le-ltb 4 r.disposition known, e)

    module _ (good : good_record r ≡ true) where
      rule_long : 4096 < handoff_size h → step (restores r h) t ≡ outcome t (Refused HandoffTooLong) []
      unfolding step restore
      rule_long e = rw (le-ltb 4 r.disposition known, good, lt-ltb 4096 (handoff_size h) e)

      module _ (small : handoff_size h ≤ 4096) where
        by_late : {b : Bool} → too_late t ≡ b → step (restores r h) t ≡ (if b then outcome t (Refused RestoreTooLate) [] else restoring r h t)
        unfolding step restore
        by_late {b} e = rw (le-ltb 4 r.disposition known, good, le-ltb 4096 (handoff_size h) small) (on (too_late t) b e)
          where
            by : (b : Bool) → (t refuses RestoreTooLate when b else restoring r h t) ≡ (if b then outcome t (Refused RestoreTooLate) [] else restoring r h t)
            by true = refl
            by false = refl

            on : (a b : Bool) → a ≡ b → (t refuses RestoreTooLate when a else restoring r h t) ≡ (if b then outcome t (Refused RestoreTooLate) [] else restoring r h t)
            on a b e = ap (λ (a : Bool). t refuses RestoreTooLate when a else restoring r h t) e ∙ by b

-- ---- the promise

module _ (x : Starts.Reliable) (ns ks : List ℕ) (b : Bytes) (h : Option R.Handoff) (s : SessionState) (o : Bytes) where
  abbrev r : Reliable
  r = reliable_of x ns ks b

  abbrev call : Call
  call = restores r h

  leaves_all : {y : Returned} {z : Refusal} (l : Lent) → Turned s z y → exit (held y.session) y.answer y.events l ≡ unchanged z s l
  leaves_all l t = ap (λ (y : Returned). exit (held y.session) y.answer y.events l) (turned_is t)

  promise_record : (l : Lent) → short_record ns ks b ≡ true → restore_promise r h (short_record ns ks b) s l ≡ unchanged ShortBuffer s l
  unfolding restore_promise
  promise_record l e = rw e

  -- 1: the store, and the record
  pub store-short : {y : Returned} → Turned s ShortBuffer y → length o < 65536 → RestoredBy x ns ks b h s o y o
  unfolding restore_promise taken_by
  store-short {y} t e l d q lq = by (short_record ns ks b)
    where
      by : (u : Bool) → exit (held y.session) y.answer y.events (lent l d o q) ≡ (if u then unchanged ShortBuffer s (lent l d o q) else promise call s (lent l d o q))
      by true = leaves_all (lent l d o q) t
      by false = is-short call s (lent l d o q) t (short-outbound (taken_by call) (lent l d o q) refl e)

  pub record_short : {y : Returned} → Turned s ShortBuffer y → short_record ns ks b ≡ true → RestoredBy x ns ks b h s o y o
  record_short t e l d q lq = leaves_all (lent l d o q) t ∙ sym (promise_record (lent l d o q) e)

  module _ (lo : 65536 ≤ length o) (long : short_record ns ks b ≡ false) where
    called : (y : Returned) {o' : Bytes} → ((l : List ℕ) (d q : Bytes) → 32768 ≤ length q → Called call s (lent l d o q) y (lent l d o' q)) → RestoredBy x ns ks b h s o y o'
    unfolding restore_promise
    called y f l d q lq = f l d q lq ∙ sym (ap (λ (u : Bool). if u then unchanged ShortBuffer s (lent l d o q) else promise call s (lent l d o q)) long)

    enough : (l : List ℕ) (d q : Bytes) → short (taken_by call) (lent l d o q) ≡ false
    unfolding taken_by
    enough l d q = long-enough (taken_by call) (lent l d o q) not_taken not_taken (λ e. lo) not_taken

    -- 2
    pub code_wrong : {y : Returned} → Turned s UnknownCode y → 4 < x.disposition → RestoredBy x ns ks b h s o y o
    unfolding wrong_code
    code_wrong {y} t e = called y (λ l d q lq. is_wrong call s (lent l d o q) (enough l d q) t (lt-ltb 4 x.disposition e))

    module _ (known : x.disposition ≤ 4) where
      -- 3, of the session
      pub session_bad : {y : Returned} → Turned s BadRecord y → sound_of s ≡ false → RestoredBy x ns ks b h s o y o
      session_bad {y} t e = called y (λ l d q lq. unsound (plain r h known) s l d o q not_taken (λ e. lo) not_taken t e)

      module _ (sound : sound_of s ≡ true) (full : Full s) where
        refuses_by : {y : Returned} {z : Refusal} → Turned s z y → ((q : Bytes) → 32768 ≤ length q → step call (state_of s o q) ≡ outcome (state_of s o q) (Refused z) [])
            → RestoredBy x ns ks b h s o y o
        refuses_by {y} t f = called y (λ l d q lq. refused (plain r h known) s l d o q not_taken (λ e. lo) not_taken sound full lo lq t (f q lq))

        -- 3, of the record
        pub record_bad : {y : Returned} → Turned s BadRecord y → good_record r ≡ false → RestoredBy x ns ks b h s o y o
        record_bad t e = refuses_by t (λ q lq. rule_bad r h (state_of s o q) known e)

        module _ (good : good_record r ≡ true) where
          -- 10
          pub handoff-long : {y : Returned} → Turned s HandoffTooLong y → 4096 < handoff_size h → RestoredBy x ns ks b h s o y o
          handoff-long t e = refuses_by t (λ q lq. rule_long r h (state_of s o q) known good e)

          module _ (small : handoff_size h ≤ 4096) where
            lateness : {u : Bool} → u ≡ not (eqb s.clock.generation 0 && eqb s.queue.count 0 && eqb s.waiting.count 0) → (q : Bytes) → 32768 ≤ length q → too_late (state_of s o q) ≡ u
            lateness e q lq = late_is s o q (entered s o q sound full lo lq).good.exact ∙ sym e

            -- 28
            pub restored_late : {y : Returned} → Turned s RestoreTooLate y → true ≡ not (eqb s.clock.generation 0 && eqb s.queue.count 0 && eqb s.waiting.count 0)
                → RestoredBy x ns ks b h s o y o
            restored_late t e = refuses_by t (λ q lq. by_late r h (state_of s o q) known good small (lateness e q lq))

            -- the record is taken, and the handoff or 31
            pub restores_it : {y : SessionState} {z : Returned} {o' : Bytes} → false ≡ not (eqb s.clock.generation 0 && eqb s.queue.count 0 && eqb s.waiting.count 0)
                → Takes x ns ks b s o y o' → Ends h y z → RestoredBy x ns ks b h s o z o'
            restores_it {y} {z} {o'} e w f =
                called z
                (λ l d q lq.
                comes (plain r h known) s l d o q not_taken sound full lo lq {rule = restoring r h}
                (record {
                  shown = [];
                  does = λ q. ap (λ (t : R.State). answers Done (restore_terminal h t)) (w.does q) ∙ f.does o' q;
                  exact = λ size ex. f.exact (length o') size (w.exact size ex);
                  bytes = w.stored ∙ ap (λ (v : Outbox). repacked (end_u s.outbox) (packed body_of (unacked_of v o')) o) (sym f.outbox);
                  queue = f.queue ∙ w.queue;
                  listed = λ us. rw f.events (listed-none l 0);
                })
                (by_late r h (state_of s o q) known good small (lateness e q lq)) (λ e. refl))

      -- what the checks show of the record
      pub taking : sound_of s ≡ true → Full s → good_record r ≡ true → Taking x ns ks b s (length o)
      taking sound full good =
          let l : Long ns ks b = long_record ns ks b long in
          record { fitting = good-fitting x ns ks b l good; bytes = l.bytes; known = known; exact = (parts s sound full).unacked o lo }

-- the handoff that a sound session holds lies within its array
handoff-within : (s : SessionState) (o : Bytes) → sound_of s ≡ true → Full s → 65536 ≤ length o → handoff_length s.handoff ≤ length s.handoff.body
handoff-within s o sound full lo =
    let q : Bytes = replicate 32768 0 in
    let lq : length q ≡ 32768 = length-replicate {A = ℕ} 32768 0 in
    let i : Entered s o q = entered s o q sound full lo (omega arith) in
    omega (arith, i.good.exact.rest.handed, full.handoff)

-- and so once the record is taken
pub handoff-taken : (s : SessionState) (o : Bytes) → sound_of s ≡ true → Full s → 65536 ≤ length o → (r : SessionState) → r.handoff ≡ s.handoff → handoff_length r.handoff ≤ length r.handoff.body
handoff-taken s o sound full lo r e = rw e (handoff-within s o sound full lo)
