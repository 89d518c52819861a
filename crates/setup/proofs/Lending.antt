-- A call that hands no body over meets its promise, from the tests that it made, whichever of list and stores it takes. Assumes nothing.
use mathlib.Core.Path.{◌≡◌, refl, sym, ap, ◌∙◌}
use mathlib.Core.Bool.{Bool, true, false}
use mathlib.Core.List.{List, []}
use Prim.Native.Nat.{ℕ, ◌≤◌, ◌<◌}
use native.Mathlib.Nat.{zero-add}
use lib.ListN.{length}
use Rattle.rules.specs.declared.Answer.{Answer}
use Rattle.rules.specs.declared.Answer.TheVariants.{Refused}
use Rattle.rules.specs.declared.Refusal.{Refusal}
use Rattle.rules.specs.declared.Refusal.TheVariants.{BadRecord}
use Rattle.rules.specs.Lists.{Bytes, packed}
use Rattle.rules.specs.State as R
use Rattle.rules.specs.State.{body_of, frame_body}
use Rattle.rules.specs.Events.{Event}
use Rattle.rules.specs.Progress.{Outcome, outcome}
use Rattle.rules.specs.Calls.{Call, step}
use Rattle.rules.specs.Buffers.{takes, taken_by, short, wrong_code, where_taken, repacked, outbound_end, queue_end, queue_reach}
use Rattle.events.specs.Written.{ListedIn}
use Rattle.outbox.specs.View.{end_u, unacked_of}
use Rattle.outbox.proofs.View.{exact-total}
use Rattle.queue.specs.View.{end_q, frames_of}
use Rattle.queue.proofs.View.{frames-total}
use Rattle.peer_session.specs.declared.SessionState.{SessionState}
use Rattle.peer_session.specs.View.{state_of, Exact}
use Rattle.peer_session.specs.Sound.{sound_of, Full}
use Rattle.peer_session.proofs.View.{exact-held}
use Rattle.session.specs.declared.Returned.{Returned}
use Rattle.session.specs.Promise.{lent, Called, Turned}
use Rattle.session.proofs.Promises.{list_written}
use Rattle.session.proofs.Lengths.{long-enough, not_taken}
use Rattle.session.proofs.Entry.{Entered, entered, is_unsound, meets, is_refused}
use Rattle.setup.specs.Steps.{Comes}

-- ---- what the rule book settles of a call before any state: the list and stores that it takes, and that it puts nothing into the queue store

pub record Plain (c : Call) (tl to tq : Bool) : Type 0 where
  pub taken : taken_by c ≡ takes tl false to tq
  pub known : wrong_code c ≡ false
  pub reach : (t : R.State) → queue_reach c t ≡ queue_end t

-- a buffer after a call, by whether the call takes it
by_taken : (b : Bool) (x y z : List ℕ) → (b ≡ true → x ≡ y) → (b ≡ false → x ≡ z) → x ≡ where_taken b y z
by_taken true x y z f g = f refl
by_taken false x y z f g = g refl

-- of a buffer that is taken nothing else is asked
pub is-taken : {A : Type 0} → true ≡ false → A
is-taken e = not_taken (sym e)

-- ---- what a call leaves, with these buffers

pub record Leaves (c : Call) (tl to tq : Bool) (s : SessionState) (l : List ℕ) (o q : Bytes) (r : SessionState) (a : Answer) (n : ℕ) (l' : List ℕ) (o' q' : Bytes) : Type 0 where
  pub shown : List Event
  pub does : step c (state_of s o q) ≡ outcome (state_of r o' q') a shown
  pub exact : Exact r (length o') (length q')
  pub listed : ListedIn (unacked_of r.outbox o') shown l 0 l' n
  pub quiet : tl ≡ false → l' ≡ l
  pub outbound : to ≡ true → o' ≡ repacked (end_u s.outbox) (packed body_of (unacked_of r.outbox o')) o
  pub no_outbound : to ≡ false → o' ≡ o
  pub queue : tq ≡ true → q' ≡ repacked (end_q s.queue) (packed frame_body (frames_of r.queue q')) q
  pub no_queue : tq ≡ false → q' ≡ q

module _ {c : Call} {tl to tq : Bool} (p : Plain c tl to tq) (s : SessionState) (l : List ℕ) (d o q : Bytes) (ll : tl ≡ true → 4096 ≤ length l) (lo : to ≡ true → 65536 ≤ length o) (lq : tq ≡ true → 32768 ≤ length q) where
  long : short (taken_by c) (lent l d o q) ≡ false
  long = rw p.taken (long-enough (takes tl false to tq) (lent l d o q) ll not_taken lo lq)

  -- 3
  pub unsound : {r : Returned} → Turned s BadRecord r → sound_of s ≡ false → Called c s (lent l d o q) r (lent l d o q)
  unsound t e = is_unsound c s (lent l d o q) long p.known t e

  module _ (sound : sound_of s ≡ true) (full : Full s) (ol : 65536 ≤ length o) (ql : 32768 ≤ length q) where
    pub in_order : Entered s o q
    in_order = entered s o q sound full ol ql

    -- a refusal by the rule book
    pub refused : {r : Returned} {x : Refusal} → Turned s x r → step c (state_of s o q) ≡ outcome (state_of s o q) (Refused x) []
        → Called c s (lent l d o q) r (lent l d o q)
    refused t e = is_refused c s (lent l d o q) long p.known t sound in_order (p.reach (state_of s o q)) e

    -- the rule book's outcome
    pub leaves : {r : Returned} {l' : List ℕ} {o' q' : Bytes} → Leaves c tl to tq s l o q r.session r.answer r.events l' o' q'
        → Called c s (lent l d o q) r (lent l' d o' q')
    leaves {r} {l'} {o'} {q'} w =
        let i : Entered s o q = in_order in
        let ex : Exact s (length o) (length q) = i.good.exact in
        let t : R.State = state_of s o q in
        let us : List R.Unacked = unacked_of r.session.outbox o' in
        let fs : List R.Frame = frames_of r.session.queue q' in
        meets c s (lent l d o q) long p.known {r = r.session} sound
        (record {
          left = state_of r.session o' q';
          events = w.shown;
          does = w.does;
          session = exact-held r.session o' q' w.exact;
          count = w.listed.count ∙ zero-add (length w.shown);
          list = rw p.taken (by_taken tl l' _ l (λ e. list_written w.listed) w.quiet);
          delivery = rw p.taken refl;
          outbound =
              rw p.taken
              (by_taken to o' (repacked (outbound_end t) (packed body_of us) o) o
              (λ e. w.outbound e ∙ ap (λ (k : ℕ). repacked k (packed body_of us) o) (exact-total s.outbox o ex.outbox))
              w.no_outbound);
          queue =
              rw (p.taken, p.reach)
              (by_taken tq q' (repacked (queue_end t) (packed frame_body fs) q) q
              (λ e. w.queue e ∙ ap (λ (k : ℕ). repacked k (packed frame_body fs) q) (sym (frames-total s.queue q ex.queued)))
              w.no_queue);
        })

-- ---- a call that leaves the queue and its store

pub comes : {c : Call} {tl : Bool} (p : Plain c tl true false) (s : SessionState) (l : List ℕ) (d o q : Bytes) → (tl ≡ true → 4096 ≤ length l)
    → sound_of s ≡ true → Full s → 65536 ≤ length o → 32768 ≤ length q → {rule : R.State → Outcome} {r : Returned} {l' : List ℕ} {o' : Bytes}
    → Comes rule s l o r l' o' → step c (state_of s o q) ≡ rule (state_of s o q) → (tl ≡ false → l' ≡ l) → Called c s (lent l d o q) r (lent l' d o' q)
comes p s l d o q ll sound full ol ql {r = r} {o' = o'} w e quiet =
    leaves p s l d o q ll (λ x. ol) not_taken sound full ol ql
    (record {
      shown = w.shown;
      does = e ∙ w.does q;
      exact = w.exact (length q) (in_order p s l d o q ll (λ x. ol) not_taken sound full ol ql).good.exact;
      listed = w.listed (unacked_of r.session.outbox o');
      quiet = quiet;
      outbound = λ x. w.bytes;
      no_outbound = is-taken;
      queue = not_taken;
      no_queue = λ x. refl;
    })
