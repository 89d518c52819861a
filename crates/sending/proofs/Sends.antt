-- A send, test by test. Assumes nothing.
use mathlib.Core.Path.{◌≡◌, refl}
use mathlib.Core.Bool.{Bool, true, false}
use mathlib.Core.List.{List, []}
use Prim.Native.Nat.{ℕ, ◌+◌, ◌≤◌, ◌<◌}
use lib.ListN.{length}
use borrow.Author.Tests.{le-leb, lt-leb}
use Rattle.rules.specs.declared.Answer.TheVariants.{Number, Refused}
use Rattle.rules.specs.declared.Refusal.{Refusal}
use Rattle.rules.specs.declared.Refusal.TheVariants.{GenerationsExhausted}
use Rattle.rules.specs.Lists.{Bytes}
use Rattle.rules.specs.State as R
use Rattle.rules.specs.Progress.{stays, halts, request, outcome}
use Rattle.rules.specs.Sending.{allocate, send}
use Rattle.rules.specs.Calls.{sends, step}
use Rattle.rules.specs.Buffers.{taken_by, wrong_code, queue_reach}
use Rattle.std.specs.Prelude.{Ok, Err}
use Rattle.events.specs.Written.{Listed, asked}
use Rattle.outbox.specs.declared.Outbox.{Outbox}
use Rattle.peer_session.specs.declared.SessionState.{SessionState}
use Rattle.peer_session.specs.View.{state_of}
use Rattle.peer_session.specs.Sound.{sound_of, Full}
use Rattle.peer_session.specs.Allocates.{Allocates}
use Rattle.session.specs.declared.Returned.{Returned}
use Rattle.session.specs.Promise.{lent, Called, CalledWithOutbound, Turned}
use Rattle.setup.specs.Steps.{Joins}
use Rattle.setup.proofs.Lending.{Plain, is-taken, comes}
use Rattle.setup.proofs.Steps as J

-- ---- the rule

module _ (b : Bytes) (t : R.State) where
  pub spent : 4294966000 ≤ t.clock.generation → step (sends b) t ≡ outcome t (Refused GenerationsExhausted) []
  unfolding step send
  spent h = rw (le-leb 4294966000 t.clock.generation h)

  stopped : (x : Refusal) (r : R.State) → t.clock.generation < 4294966000 → allocate b t.stage.disposition t ≡ halts x r
      → step (sends b) t ≡ outcome r (Refused x) []
  unfolding step send
  stopped x r h e = rw (lt-leb 4294966000 t.clock.generation h, e)

  sent : (r : R.State) → t.clock.generation < 4294966000 → allocate b t.stage.disposition t ≡ stays r
      → step (sends b) t ≡ outcome r (Number t.outbox.next) (asked r.clock)
  unfolding step send request
  sent r h e = rw (lt-leb 4294966000 t.clock.generation h, e)

-- ---- the entry

-- Below the generation's end, as the entry says of a call that raises it. By cases, so that the edit one_generation_too_many is refused by the generation
-- that it lets in, and not since what it gives is no literal.
low_by : (b : Bool) {n : ℕ} → (b ≡ true → n < 4294966000) → (b ≡ false → n < 4294966000) → n < 4294966000
low_by true low other = low refl
low_by false low other = other refl

pub below : {n : ℕ} → (true ≡ true → n < 4294966000) → n < 4294966000
below low = low_by true low (λ e. cc)

-- ---- the call, by what `setup::join` promises

plain : (b : Bytes) → Plain (sends b) true true false
unfolding taken_by wrong_code queue_reach
plain b = record { taken = refl; known = refl; reach = λ t. refl }

module _ (s : SessionState) (l : List ℕ) (o b : Bytes) (ll : 4096 ≤ length l) (lo : 65536 ≤ length o) (sound : sound_of s ≡ true) (full : Full s)
    (h : s.clock.generation < 4294966000) {o' : Bytes} where
  pub joins_not : {r : Returned} {x : Refusal} → Joins b s.stage.disposition s o (Err x) o' → Turned s x r → CalledWithOutbound (sends b) s l o r l o'
  joins_not {x = x} j t d q lq =
      comes (plain b) s l d o q (λ e. ll) sound full lo lq {rule = step (sends b)}
      (J.stopped j t (λ q u e. stopped b (state_of s o q) x u h e))
      refl
      is-taken

  pub joined : {a : SessionState} → Joins b s.stage.disposition s o (Ok a) o' → {l' : List ℕ} {n : ℕ} → Listed (asked a.clock) l 0 l' n
      → CalledWithOutbound (sends b) s l o (record { session = a; answer = Number s.outbox.next; events = n }) l' o'
  joined {a} j li d q lq =
      comes (plain b) s l d o q (λ e. ll) sound full lo lq {rule = step (sends b)}
      (record {
        shown = asked a.clock;
        does = λ q. sent b (state_of s o q) (state_of a o' q) h (j.does q);
        exact = j.exact;
        bytes = j.bytes;
        queue = j.queue;
        listed = li;
      })
      refl
      is-taken

-- ---- the same by what `allocate` promises, for the call in place

-- the session with the message
abbrev next : SessionState → Outbox → SessionState
next s more =
    record {
      outbox = more;
      remote = s.remote;
      released = s.released;
      queue = s.queue;
      waiting = s.waiting;
      retry = s.retry;
      clock = record { last_replay_at = s.clock.last_replay_at; generation = s.clock.generation + 1; released = s.clock.released; persisted = s.clock.persisted };
      stage = s.stage;
      handoff = s.handoff;
      policy = s.policy;
      reject = s.reject;
    }

module _ (s : SessionState) (l : List ℕ) (o b d q : Bytes) (ll : 4096 ≤ length l) (lo : 65536 ≤ length o) (sound : sound_of s ≡ true) (full : Full s) (lq : 32768 ≤ length q)
    (h : s.clock.generation < 4294966000) {o' : Bytes} where
  pub refused : {r : Returned} {x : Refusal} → Allocates b s.outbox o (Err x) o' → Turned s x r → Called (sends b) s (lent l d o q) r (lent l d o' q)
  refused a t = joins_not s l o b ll lo sound full h (J.joins_not a) t d q lq

  pub went : {more : Outbox} → Allocates b s.outbox o (Ok more) o' → {l' : List ℕ} {n : ℕ} → Listed (asked (next s more).clock) l 0 l' n
      → Called (sends b) s (lent l d o q) (record { session = next s more; answer = Number s.outbox.next; events = n }) (lent l' d o' q)
  went a li = joined s l o b ll lo sound full h (J.joins a) li d q lq
