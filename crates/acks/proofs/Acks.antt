-- An ack, test by test. Assumes nothing.
use mathlib.Core.Path.{◌≡◌, refl, sym, ap, ◌∙◌}
use mathlib.Core.Bool.{Bool, true, false, ◌||◌}
use mathlib.Core.List.{List, [], ◌∷◌, append-nil}
use Prim.Native.Nat.{ℕ, ◌-◌, ◌≤◌, ◌<◌}
use native.Mathlib.Nat.{zero-add}
use lib.ListN.{length}
use lib.Dec.{ltb}
use borrow.Author.Tests.{le-leb, lt-leb, lt-ltb, le-ltb}
use Rattle.rules.specs.declared.Answer.{Answer}
use Rattle.rules.specs.declared.Answer.TheVariants.{Flag, Refused}
use Rattle.rules.specs.declared.Refusal.TheVariants.{AckOutOfRange, GenerationsExhausted}
use Rattle.rules.specs.Lists.{Bytes, packed}
use Rattle.rules.specs.State as R
use Rattle.rules.specs.State.{body_of, frame_body}
use Rattle.rules.specs.Events.{failure}
use Rattle.rules.specs.Acks.{out_of_range, acknowledge, acknowledge_handoff, notify_acknowledged, receive_ack}
use Rattle.rules.specs.Progress.{Outcome, request, ◌then◌, outcome, answers, broken}
use Rattle.rules.specs.Calls.{gets_ack, step}
use Rattle.rules.specs.Buffers.{taken_by, short, wrong_code, repacked, outbound_end, queue_end, queue_reach}
use Rattle.events.specs.Written.{asked}
use Rattle.outbox.specs.declared.Outbox.{Outbox}
use Rattle.outbox.specs.View.{unacked_of}
use Rattle.outbox.proofs.View.{exact-total}
use Rattle.queue.specs.declared.Queue.{Queue}
use Rattle.queue.specs.View.{frames_of}
use Rattle.queue.proofs.View.{frames-total}
use Rattle.peer_session.specs.declared.SessionState.{SessionState}
use Rattle.peer_session.specs.View.{held, state_of, Exact}
use Rattle.peer_session.specs.Sound.{sound_of, Full}
use Rattle.peer_session.proofs.View.{exact-held}
use Rattle.session.specs.declared.Returned.{Returned}
use Rattle.session.specs.Promise.{exit, lent, Called}
use Rattle.session.proofs.Promises.{list_written, outbound-same, queue-same}
use Rattle.session.proofs.Lengths.{long-enough, not_taken}
use Rattle.session.proofs.Entry.{Entered, entered, meets}
use Rattle.acks.specs.Steps.{acked, shown, Acked, OutOfRange}

-- ---- the rule

-- refusal 7 is a matter of the next message's number
abbrev outside : ℕ → ℕ → Bool
outside n next = ltb n 1 || ltb (next - 1) n

pub too_low : (n next : ℕ) → n < 1 → outside n next ≡ true
too_low n next h = rw (lt-ltb n 1 h)

pub too_high : (n next : ℕ) → 1 ≤ n → next - 1 < n → outside n next ≡ true
too_high n next l h = rw (le-ltb n 1 l, lt-ltb (next - 1) n h)

pub in_range : (n next : ℕ) → 1 ≤ n → n ≤ next - 1 → outside n next ≡ false
in_range n next l h = rw (le-ltb n 1 l, le-ltb (next - 1) n h)

-- what an ack in range comes to, by the state that it leaves
abbrev finished : ℕ → R.State → Outcome
finished n t = outcome t (Flag true) (shown n t)

chain : (n : ℕ) (t x : R.State) → x ≡ acknowledge n t → answers (Flag true) (request x then acknowledge_handoff n then notify_acknowledged n) ≡ finished n (acked n t)
unfolding request notify_acknowledged
chain n t x e = rw (e, append-nil (asked (acknowledge n t).clock))

module _ (n : ℕ) (t : R.State) where
  pub spent : 4294966000 ≤ t.clock.generation → step (gets_ack n) t ≡ outcome t (Refused GenerationsExhausted) []
  unfolding step receive_ack
  spent h = rw (le-leb 4294966000 t.clock.generation h)

  module _ (h : t.clock.generation < 4294966000) where
    beyond : out_of_range n t ≡ true → step (gets_ack n) t ≡ outcome (broken t) (Refused AckOutOfRange) (failure AckOutOfRange ∷ [])
    unfolding step receive_ack
    beyond e = rw (lt-leb 4294966000 t.clock.generation h, e)

    within : (r : R.State) → out_of_range n t ≡ false → acked n t ≡ r → step (gets_ack n) t ≡ finished n r
    unfolding step receive_ack
    within r e d = rw (lt-leb 4294966000 t.clock.generation h, e) (chain n t (acknowledge n t) refl ∙ ap (finished n) d)

-- ---- the call

module _ (n : ℕ) (s : SessionState) (l : List ℕ) (o q d : Bytes) (ll : 4096 ≤ length l) (lo : 65536 ≤ length o) (lq : 32768 ≤ length q) where
  long : short (taken_by (gets_ack n)) (lent l d o q) ≡ false
  unfolding taken_by
  long = long-enough (taken_by (gets_ack n)) (lent l d o q) (λ e. ll) not_taken (λ e. lo) (λ e. lq)

  known : wrong_code (gets_ack n) ≡ false
  unfolding wrong_code
  known = refl

  module _ (sound : sound_of s ≡ true) (full : Full s) where
    in_order : Entered s o q
    in_order = entered s o q sound full lo lq

    module _ (h : s.clock.generation < 4294966000) {r : Returned} {l' : List ℕ} where
      pub fails : {q' : Bytes} → out_of_range n (state_of s o q) ≡ true → OutOfRange s l q r l' q' → Called (gets_ack n) s (lent l d o q) r (lent l' d o q')
      unfolding taken_by queue_reach
      fails {q'} e f =
          let i : Entered s o q = in_order in
          let ex : Exact s (length o) (length q) = i.good.exact in
          let t : R.State = state_of r.session o q' in
          ap (λ (a : Answer). exit (held r.session) a r.events (lent l' d o q')) f.answer
          ∙ meets (gets_ack n) s (lent l d o q) long known {r = r.session} sound
          (record {
            left = t;
            events = failure AckOutOfRange ∷ [];
            does = beyond n (state_of s o q) h e ∙ ap (λ (x : R.State). outcome x (Refused AckOutOfRange) (failure AckOutOfRange ∷ [])) (sym (f.leaves.does o));
            session = exact-held r.session o q' (f.leaves.exact (length o) ex);
            count = (f.listed []).count;
            list = list_written (f.listed t.outbox.unacked);
            delivery = refl;
            outbound =
                sym
                (ap (λ (x : Outbox). repacked (outbound_end (state_of s o q)) (packed body_of (unacked_of x o)) o) f.leaves.outbox
                ∙ outbound-same i.stored);
            queue =
                f.leaves.cleared.bytes
                ∙ ap (λ (k : ℕ). repacked k (packed frame_body []) q) (sym (frames-total s.queue q ex.queued))
                ∙ ap (λ (fs : List R.Frame). repacked (queue_end (state_of s o q)) (packed frame_body fs) q) (sym f.leaves.cleared.frames);
          })

      pub goes : {o' : Bytes} → out_of_range n (state_of s o q) ≡ false → Acked n s l o r l' o' → Called (gets_ack n) s (lent l d o q) r (lent l' d o' q)
      unfolding taken_by queue_reach
      goes {o'} e f =
          let i : Entered s o q = in_order in
          let ex : Exact s (length o) (length q) = i.good.exact in
          let t : R.State = state_of r.session o' q in
          ap (λ (a : Answer). exit (held r.session) a r.events (lent l' d o' q)) f.answer
          ∙ meets (gets_ack n) s (lent l d o q) long known {r = r.session} sound
          (record {
            left = t;
            events = shown n t;
            does = within n (state_of s o q) h t e (f.leaves.does q);
            session = exact-held r.session o' q (f.leaves.exact (length q) ex);
            count = (f.listed q []).count ∙ zero-add (length (shown n t));
            list = list_written (f.listed q t.outbox.unacked);
            delivery = refl;
            outbound =
                f.leaves.bytes
                ∙ ap (λ (k : ℕ). repacked k (packed body_of t.outbox.unacked) o)
                (exact-total s.outbox o ex.outbox);
            queue =
                sym
                (ap (λ (x : Queue). repacked (queue_end (state_of s o q)) (packed frame_body (frames_of x q)) q) f.leaves.queue
                ∙ queue-same i.stored);
          })
