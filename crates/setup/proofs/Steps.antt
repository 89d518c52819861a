-- The steps of a setup. Assumes nothing.
use mathlib.Core.Path.{◌≡◌, refl, ap}
use mathlib.Core.List.{List, []}
use Prim.Native.Nat.{ℕ, ◌+◌}
use Rattle.rules.specs.declared.Terms.{Terms}
use Rattle.rules.specs.declared.Setup.{Setup}
use Rattle.rules.specs.declared.Answer.{Answer}
use Rattle.rules.specs.declared.Answer.TheVariants.{Done, Refused}
use Rattle.rules.specs.declared.Refusal.{Refusal}
use Rattle.rules.specs.Lists.{Bytes, packed}
use Rattle.rules.specs.State as R
use Rattle.rules.specs.State.{body_of}
use Rattle.rules.specs.Progress.{Progress, halts, Outcome, outcome, ◌then◌, request, answers}
use Rattle.rules.specs.Sending.{allocate}
use Rattle.rules.specs.Setup.{waiting_with}
use Rattle.rules.specs.Buffers.{repacked}
use Rattle.std.specs.Prelude.{Ok, Err}
use Rattle.events.specs.Written.{asked}
use Rattle.events.proofs.Laws.{listed-none}
use Rattle.outbox.specs.declared.Outbox.{Outbox}
use Rattle.outbox.specs.View.{end_u, unacked_of}
use Rattle.peer_session.specs.declared.SessionState.{SessionState}
use Rattle.peer_session.specs.View.{reject_of, state_of, Exact}
use Rattle.peer_session.specs.Allocates.{Allocates}
use Rattle.session.specs.declared.Returned.{Returned}
use Rattle.session.specs.Promise.{Turned}
use Rattle.setup.specs.Steps.{Joins, Asks, staged, waiting_in, Comes, proposing, rejecting}

-- ---- a session that differs in what no store depends on

pub exact-staged : (d : ℕ) (setup : Setup) (s : SessionState) {outbound queue : ℕ} → Exact s outbound queue → Exact (staged d setup s) outbound queue
exact-staged d setup s e =
    let r = e.rest in
    record {
      outbox = e.outbox;
      queued = e.queued;
      rest = record { waiting = r.waiting; retry = r.retry; handoff = r.handoff; handed = r.handed; reject = r.reject; rejects = r.rejects };
    }

returned_cong : {s t : SessionState} {a b : Answer} {m n : ℕ} → s ≡ t → a ≡ b → m ≡ n
    → ◌≡◌ {A = Returned} (record { session = s; answer = a; events = m }) (record { session = t; answer = b; events = n })
returned_cong p q r = cc

pub turned_is : {s : SessionState} {x : Refusal} {r : Returned} → Turned s x r → r ≡ record { session = s; answer = Refused x; events = 0 }
turned_is t = returned_cong t.session t.answer t.events

-- ---- a message that joins

-- the session with the message
abbrev next : ℕ → SessionState → Outbox → SessionState
next d s y =
    record {
      outbox = y;
      remote = s.remote;
      released = s.released;
      queue = s.queue;
      waiting = s.waiting;
      retry = s.retry;
      clock = record { last_replay_at = s.clock.last_replay_at; generation = s.clock.generation + 1; released = s.clock.released; persisted = s.clock.persisted };
      stage = record { disposition = d; setup = s.stage.setup; mode = s.stage.mode; failed = s.stage.failed };
      handoff = s.handoff;
      policy = s.policy;
      reject = s.reject;
    }

module _ {b : Bytes} {d : ℕ} {s : SessionState} {o o' : Bytes} where
  pub joins_not : {x : Refusal} → Allocates b s.outbox o (Err x) o' → Joins b d s o (Err x) o'
  joins_not {x} a =
      let k : o' ≡ o = a.kept x refl in
      let e : o' ≡ repacked (end_u s.outbox) (packed body_of (unacked_of s.outbox o')) o = a.bytes in
      rw k
      (record {
        does = λ q. a.does (state_of s o q) d refl;
        exact = λ size ex. ex;
        bytes = rw k at e;
        queue = refl;
        kept = λ y z. refl;
      })

  pub joins : {y : Outbox} → Allocates b s.outbox o (Ok y) o' → Joins b d s o (Ok (next d s y)) o'
  joins a =
      record {
        does = λ q. a.does (state_of s o q) d refl;
        exact = λ size ex.
            record {
              outbox = a.exact;
              queued = ex.queued;
              rest = record { waiting = ex.rest.waiting; retry = ex.rest.retry; handoff = ex.rest.handoff; handed = ex.rest.handed; reject = ex.rest.reject; rejects = ex.rest.rejects };
            };
        bytes = a.bytes;
        queue = refl;
        kept = λ x e. cc;
      }

-- ---- what follows it

-- a refusal ends whatever would follow
pub stopped : {b : Bytes} {d : ℕ} {s : SessionState} {o o' : Bytes} {x : Refusal} → Joins b d s o (Err x) o'
    → {rule : R.State → Outcome} {l : List ℕ} {r : Returned} → Turned s x r
    → ((q : Bytes) (u : R.State) → allocate b d (state_of s o q) ≡ halts x u → rule (state_of s o q) ≡ outcome u (Refused x) []) → Comes rule s l o r l o'
stopped {s = s} {o' = o'} j {l = l} t f =
    rw (turned_is t)
    (record {
      shown = [];
      does = λ q. f q (state_of s o' q) (j.does q);
      exact = j.exact;
      bytes = j.bytes;
      queue = j.queue;
      listed = λ us. listed-none l 0;
    })

-- a proposal
module _ (terms : Terms) {b : Bytes} {s : SessionState} {l : List ℕ} {o o' : Bytes} {r : Returned} where
  pub proposal_stopped : {x : Refusal} → Joins b 1 s o (Err x) o' → Turned s x r → Comes (proposing terms b) s l o r l o'
  proposal_stopped j t = stopped j t (λ q u h. ap (λ (p : Progress). answers Done (p then waiting_with terms)) h)

  pub proposed : {a : SessionState} → Joins b 1 s o (Ok a) o' → r ≡ waiting_in 1 terms a → Comes (proposing terms b) s l o r l o'
  proposed {a} j h =
      rw h
      (record {
        shown = [];
        does = λ q. ap (λ (p : Progress). answers Done (p then waiting_with terms)) (j.does q);
        exact = λ size ex. exact-staged 1 _ a (j.exact size ex);
        bytes = j.bytes;
        queue = j.queue;
        listed = λ us. listed-none l 0;
      })

-- a rejection
module _ {s : SessionState} {l : List ℕ} {o o' : Bytes} {r : Returned} where
  pub rejection_stopped : {x : Refusal} → Joins (reject_of s.reject) 4 s o (Err x) o' → Turned s x r → Comes rejecting s l o r l o'
  rejection_stopped j t = stopped j t (λ q u h. ap (λ (p : Progress). answers Done (p then request)) h)

  pub rejected : {a : SessionState} {l' : List ℕ} → Joins (reject_of s.reject) 4 s o (Ok a) o' → Asks a l r l' → Comes rejecting s l o r l' o'
  unfolding request
  rejected {a} j h =
      rw h.is
      (record {
        shown = asked a.clock;
        does = λ q. ap (λ (p : Progress). answers Done (p then request)) (j.does q);
        exact = j.exact;
        bytes = j.bytes;
        queue = j.queue;
        listed = h.listed;
      })
