-- A report of a send, test by test. Assumes nothing.
use Rattle.std.specs.Prelude.{if◌then◌else◌}
use Rattle.std.specs.Prelude.{Result, Ok, Err, is_err}
use Rattle.rules.specs.declared.FrameKind.{FrameKind}
use Rattle.rules.specs.declared.Refusal.{Refusal}
use Rattle.rules.specs.Codes.{ReadsFrameKind}
use Rattle.rules.proofs.Codes.{code-small}
use mathlib.Core.Path.{◌≡◌, refl, sym, ap, ◌∙◌}
use mathlib.Core.Bool.{Bool, true, false, not, ◌&&◌}
use mathlib.Core.List.{List, [], ◌∷◌, map}
use mathlib.Core.Option.{none, some}
use Prim.Native.Nat.{ℕ, ◌*◌, ◌≤◌}
use native.Mathlib.Omega.{arith}
use lib.ListN.{length, take, replicate, length-replicate}
use lib.Dec.{leb, eqb}
use borrow.Author.Tests.{lt-ltb, le-ltb, eq-eqb, ne_eqb}
use Rattle.stores.specs.Placed.{placed}
use Rattle.rules.specs.declared.Answer.TheVariants.{Done}
use Rattle.rules.specs.declared.Refusal.TheVariants.{RetriesFull}
use Rattle.rules.specs.Lists.{Bytes, itself, has, put, kept}
use Rattle.rules.specs.State as R
use Rattle.rules.specs.State.{unacked_is, retry_is, handoff_is}
use Rattle.rules.specs.Events.{commit_requested, listed}
use Rattle.rules.specs.Progress.{Outcome, outcome}
use Rattle.rules.specs.Acks.{sent, send_handoff, report_data, report_ack, retries_full, differs_from, report}
use Rattle.rules.specs.Calls.{reports, step}
use Rattle.rules.specs.Buffers.{takes, taken_by, wrong_code, flat}
use Rattle.rules.proofs.Sound.{report-sound}
use Rattle.events.proofs.Laws.{listed-none}
use Rattle.numbers.specs.declared.Numbers.{Numbers}
use Rattle.numbers.specs.Seats.{in_use, ExactNumbers, Holds}
use Rattle.numbers.proofs.Laws.{exact-length}
use Rattle.outbox.specs.declared.Outbox.{Outbox}
use Rattle.outbox.specs.View.{unacked_of}
use Rattle.outbox.specs.Steps.{Flagged}
use Rattle.outbox.proofs.View.{sound_facts}
use Rattle.peer_session.specs.declared.SessionState.{SessionState}
use Rattle.peer_session.specs.declared.TerminalHandoff.{TerminalHandoff}
use Rattle.peer_session.specs.View.{handoff_of, state_of, Exact}
use Rattle.peer_session.specs.Sound.{sound_of, Full}
use Rattle.peer_session.proofs.View.{Good, sound-good, parts}
use Rattle.peer_session.proofs.Held.{outbox_cong, inbox_cong, state_cong}
use Rattle.session.specs.declared.Returned.{Returned}
use Rattle.session.specs.Promise.{CalledWithList, Turned}
use Rattle.session.proofs.WithList.{list_meets}
use Rattle.acks.specs.Reports.{Reports, own_frame, full_of, MayRetry}

-- ---- the rule

module _ (what n : ℕ) (accepted : Bool) where
  pub list-alone : taken_by (reports what n accepted) ≡ takes true false false false
  unfolding taken_by
  list-alone = refl

  pub read-code : (r : Result FrameKind Refusal) → ReadsFrameKind what r → wrong_code (reports what n accepted) ≡ is_err r
  unfolding wrong_code
  read-code (Ok k) e = le-ltb 1 what (code-small k e)
  read-code (Err x) e = lt-ltb 1 what e.1

  module _ (h : what ≤ 1) where
    pub good-code : wrong_code (reports what n accepted) ≡ false
    unfolding wrong_code
    good-code = le-ltb 1 what h

    pub of_data : what ≡ 0 → (b : Bool) → accepted ≡ b → (t : R.State) → step (reports what n accepted) t ≡ report_data b n t
    unfolding step report
    of_data e b f t = rw (le-ltb 1 what h, eq-eqb what 0 e, f)

    pub of_ack : (what ≡ 0 → ⊥) → (b : Bool) → accepted ≡ b → (t : R.State) → step (reports what n accepted) t ≡ report_ack b n t
    unfolding step report
    of_ack e b f t = rw (le-ltb 1 what h, ne_eqb what 0 e, f)

    -- a step that does what the rule says meets the promise
    pub reported : {f : R.State → Outcome} (s : SessionState) (l : List ℕ) {r : Returned} {l' : List ℕ} → 4096 ≤ length l → sound_of s ≡ true → Full s
        → ((t : R.State) → step (reports what n accepted) t ≡ f t) → Reports f s l r l' → CalledWithList (reports what n accepted) s l r l'
    reported s l {r} {l'} ll sound full e p =
        list_meets (reports what n accepted) list-alone s l ll good-code sound full r.session r.answer r.events l'
        (λ o q i lo.
        record {
          events = p.events;
          does = e (state_of s o q) ∙ p.does o q i.good.exact;
          exact = p.exact o q i.good.exact;
          listed = p.listed (unacked_of r.session.outbox o);
        })

-- ---- data

module _ (h : TerminalHandoff) where
  abbrev marked : Bool → TerminalHandoff
  marked b = record { body = h.body; len = h.len; id = h.id; number = h.number; sent = b; acknowledged = h.acknowledged; present = h.present }

  abbrev seen : Bool → R.Handoff
  seen b = record { id = h.id; number = h.number; body = take h.len h.body; sent = b; acknowledged = h.acknowledged }

  module _ (n : ℕ) (x : R.State) where
    own-sent : own_frame n h ≡ true → send_handoff (handoff_of h) n x ≡ outcome (handoff_is (handoff_of (marked true)) x) Done (commit_requested ∷ [])
    own-sent e = go h.present e
      where
        go : (b : Bool) → (b && eqb h.number n) ≡ true
            → send_handoff (if b then some (seen h.sent) else none) n x ≡ outcome (handoff_is (if b then some (seen true) else none) x) Done (commit_requested ∷ [])
        go true f = rw f
        go false f = let z : ◌≡◌ {A = ℕ} 0 1 = cc in absurd (omega arith)

    other-sent : own_frame n h ≡ false → send_handoff (handoff_of h) n x ≡ outcome x Done []
    other-sent e = go h.present e
      where
        go : (b : Bool) → (b && eqb h.number n) ≡ false → send_handoff (if b then some (seen h.sent) else none) n x ≡ outcome x Done []
        go true f = rw f
        go false f = refl

-- the session with an outbox, its handoff marked as sent or not
abbrev with_outbox : SessionState → Outbox → Bool → SessionState
with_outbox s x b =
    record {
      outbox = x;
      remote = s.remote;
      released = s.released;
      queue = s.queue;
      waiting = s.waiting;
      retry = s.retry;
      clock = s.clock;
      stage = s.stage;
      handoff = marked s.handoff b;
      policy = s.policy;
      reject = s.reject;
    }

module _ (n : ℕ) (s : SessionState) (l : List ℕ) (x : Outbox) (m : Flagged (sent n) s.outbox x) where
  abbrev after : Bytes → Bytes → R.State
  after o q = unacked_is (map (sent n) (unacked_of s.outbox o)) (state_of s o q)

  flagged : (o q : Bytes) → Exact s (length o) (length q) → after o q ≡ state_of (with_outbox s x s.handoff.sent) o q
  flagged o q e = state_cong (outbox_cong (sym m.next) (sym (m.unacked o (omega (arith, e.outbox))))) refl refl refl refl

  exact_marked : (b : Bool) (o q : Bytes) → Exact s (length o) (length q) → Exact (with_outbox s x b) (length o) (length q)
  exact_marked b o q e =
      record {
        outbox = m.exact (length o) e.outbox;
        queued = e.queued;
        rest = record { waiting = e.rest.waiting; retry = e.rest.retry; handoff = e.rest.handoff; handed = e.rest.handed; reject = e.rest.reject; rejects = e.rest.rejects };
      }

  pub other-frame : own_frame n s.handoff ≡ false → Reports (report_data true n) s l (record { session = with_outbox s x s.handoff.sent; answer = Done; events = 0 }) l
  other-frame f =
      record {
        events = [];
        does = λ o q e. other-sent s.handoff n (after o q) f ∙ ap (λ (t : R.State). outcome t Done []) (flagged o q e);
        exact = exact_marked s.handoff.sent;
        listed = λ us. listed-none l 0;
      }

  pub its_own_frame : {l' : List ℕ} → own_frame n s.handoff ≡ true → l' ≡ placed l (4 * 0) (1 ∷ 0 ∷ 0 ∷ 0 ∷ [])
      → Reports (report_data true n) s l (record { session = with_outbox s x true; answer = Done; events = 1 }) l'
  unfolding flat listed
  its_own_frame f w =
      record {
        events = commit_requested ∷ [];
        does = λ o q e.
            own-sent s.handoff n (after o q) f
            ∙ ap (λ (t : R.State). outcome (handoff_is (handoff_of (marked s.handoff true)) t) Done (commit_requested ∷ [])) (flagged o q e);
        exact = exact_marked true;
        listed = λ us. record { count = refl; words = λ at. w };
      }

pub few-messages : (s : SessionState) → sound_of s ≡ true → Full s → s.outbox.count ≤ 256
few-messages s e full = (sound_facts s.outbox (parts s e full).outbox).few

-- ---- an ack

abbrev with_retries : SessionState → Numbers → SessionState
with_retries s v =
    record {
      outbox = s.outbox;
      remote = s.remote;
      released = s.released;
      queue = s.queue;
      waiting = s.waiting;
      retry = v;
      clock = s.clock;
      stage = s.stage;
      handoff = s.handoff;
      policy = s.policy;
      reject = s.reject;
    }

-- a rule that only sets the retries
retries_are : (f : R.State → Outcome) (s : SessionState) {ns : List ℕ} {v : Numbers} (l : List ℕ) → Holds ns v
    → ((o q : Bytes) → Exact s (length o) (length q) → f (state_of s o q) ≡ outcome (retry_is ns (state_of s o q)) Done [])
    → Reports f s l (record { session = with_retries s v; answer = Done; events = 0 }) l
retries_are f s l h d =
    record {
      events = [];
      does = λ o q e.
          d o q e ∙ ap (λ (t : R.State). outcome t Done []) (state_cong refl (inbox_cong refl refl refl refl (sym h.held)) refl refl refl);
      exact = λ o q e.
          record {
            outbox = e.outbox;
            queued = e.queued;
            rest = record { waiting = e.rest.waiting; retry = h.exact; handoff = e.rest.handoff; handed = e.rest.handed; reject = e.rest.reject; rejects = e.rest.rejects };
          };
      listed = λ us. listed-none l 0;
    }

pub sent_ack : (n : ℕ) (s : SessionState) (v : Numbers) (l : List ℕ) → Holds (kept (differs_from n) (in_use s.retry)) v
    → Reports (report_ack true n) s l (record { session = with_retries s v; answer = Done; events = 0 }) l
sent_ack n s v l h = retries_are (report_ack true n) s l h (λ o q e. refl)

full_is : (n : ℕ) (s : SessionState) (o q : Bytes) → ExactNumbers s.retry → retries_full n (state_of s o q) ≡ full_of n s.retry
full_is n s o q e = ap (λ (k : ℕ). leb 512 k && not (has n (in_use s.retry))) (exact-length s.retry e)

pub kept_ack : (n : ℕ) (s : SessionState) (v : Numbers) (l : List ℕ) → full_of n s.retry ≡ false → Holds (put itself n (in_use s.retry)) v
    → Reports (report_ack false n) s l (record { session = with_retries s v; answer = Done; events = 0 }) l
kept_ack n s v l f h =
    retries_are (report_ack false n) s l h (λ o q e. rw (full_is n s o q e.rest.retry, f))

pub lost_ack : (n : ℕ) (s : SessionState) (l : List ℕ) {r : Returned} → full_of n s.retry ≡ true → Turned s RetriesFull r → Reports (report_ack false n) s l r l
lost_ack n s l {r} f t =
    rw (t.session, t.answer, t.events)
    (record {
      events = [];
      does = λ o q e. rw (full_is n s o q e.rest.retry, f);
      exact = λ o q e. e;
      listed = λ us. listed-none l 0;
    })

-- room for a retry, from the rule book's own proof that a report leaves a sound state
pub may_retry : (n : ℕ) (s : SessionState) → sound_of s ≡ true → Full s → MayRetry n s.retry
unfolding report
may_retry n s e full =
    let o : Bytes = replicate 65536 0 in
    let q : Bytes = replicate 32768 0 in
    let lo : length o ≡ 65536 = length-replicate {A = ℕ} 65536 0 in
    let lq : length q ≡ 32768 = length-replicate {A = ℕ} 32768 0 in
    let g : Good s o q = sound-good s o q e full (omega arith) (omega arith) in
    let x : ExactNumbers s.retry = g.exact.rest.retry in
    record {
      few = x.few;
      room = λ f.
          let k : retries_full n (state_of s o q) ≡ false = full_is n s o q x ∙ f in
          rw k at (report-sound 1 n false (state_of s o q) g.sound).1.few;
    }
