-- A struct that settles a given sound state: the arrays filled up with blanks. Assumes nothing.
use mathlib.Core.Path.{◌≡◌, refl, ap}
use mathlib.Core.Bool.{true, false}
use mathlib.Core.List.{List, [], ◌∷◌, ◌++◌, map}
use mathlib.Core.Option.{Option, none, some}
use Prim.Native.Nat.{ℕ, ◌-◌, ◌≤◌}
use native.Mathlib.Omega.{arith}
use lib.ListN.{length, take, replicate, length-append, length-replicate, length-map}
use lib.Dec.{leb}
use borrow.Author.Tests.{leb-true}
use Rattle.rules.specs.Lists.{Bytes}
use Rattle.rules.specs.State as R
use Rattle.rules.specs.Start.{good_policy, good_reject, handoff_size}
use Rattle.rules.specs.Sound.{sound_fixed}
use Rattle.rules.proofs.Lists.{every_true}
use Rattle.rules.proofs.Sound.{Sound}
use Rattle.outbox.specs.View.{record_u, blank_u}
use Rattle.queue.specs.View.{record_q, blank_q}
use Rattle.peer_session.specs.declared.TerminalHandoff.{TerminalHandoff}
use Rattle.peer_session.specs.declared.SessionState.{SessionState}
use Rattle.peer_session.specs.View.{held, encode, handoff_of, handoff_length}
use Rattle.peer_session.specs.Sound.{Full}
use Rattle.peer_session.proofs.Held.{agree}

module _ {A : Type 0} where
  abbrev filled_up : ℕ → A → List A → List A
  filled_up n a l = l ++ replicate (n - length l) a

  take-front : (l r : List A) → take (length l) (l ++ r) ≡ l
  take-front [] r = refl
  take-front (x ∷ l) r = ap (λ z. x ∷ z) (take-front l r)

  length-filled : (n : ℕ) (a : A) (l : List A) → length l ≤ n → length (filled_up n a l) ≡ n
  length-filled n a l h = simp (length-append, length-replicate) (omega arith)

handoff-code : Option R.Handoff → TerminalHandoff
handoff-code none = record { body = replicate 4096 0; len = 0; id = 0; number = 0; sent = false; acknowledged = false; present = false }
handoff-code (some h) =
    record { body = filled_up 4096 0 h.body; len = length h.body; id = h.id; number = h.number; sent = h.sent; acknowledged = h.acknowledged; present = true }

handoff_is : (h : Option R.Handoff) → handoff_of (handoff-code h) ≡ h
unfolding handoff-code
handoff_is none = refl
handoff_is (some h) =
    ap (λ (b : Bytes). some (record { id = h.id; number = h.number; body = b; sent = h.sent; acknowledged = h.acknowledged })) (take-front h.body (replicate (4096 - length h.body) 0))

handoff_sized : (h : Option R.Handoff) → handoff_length (handoff-code h) ≡ handoff_size h
unfolding handoff-code
handoff_sized none = refl
handoff_sized (some h) = refl

handoff-full : (h : Option R.Handoff) → handoff_size h ≤ 4096 → length (handoff-code h).body ≡ 4096
unfolding handoff-code
handoff-full none e = length-replicate {A = ℕ} 4096 0
handoff-full (some h) e = length-filled 4096 0 h.body e

module _ (t : R.State) where
  abbrev us : List R.Unacked
  us = t.outbox.unacked

  abbrev fs : List R.Frame
  fs = t.inbox.queue

  pub realised : SessionState
  realised =
      record {
        outbox = record { next = t.outbox.next; records = filled_up 256 blank_u (map record_u us); count = length (map record_u us) };
        remote = t.inbox.remote;
        released = t.inbox.released;
        queue = record { records = filled_up 256 blank_q (map record_q fs); count = length (map record_q fs) };
        waiting = record { values = filled_up 512 0 t.inbox.waiting; count = length t.inbox.waiting };
        retry = record { values = filled_up 512 0 t.inbox.retry; count = length t.inbox.retry };
        clock = t.clock;
        stage = record { disposition = t.stage.disposition; setup = t.stage.setup; mode = t.stage.mode; failed = t.stage.failed };
        handoff = handoff-code t.stage.handoff;
        policy = t.fixed.policy;
        reject = record { bytes = filled_up 64 0 t.fixed.reject; len = length t.fixed.reject };
      }

  pub realised_held : held realised ≡ encode t
  unfolding encode realised
  realised_held =
      agree
      (record {
        next = refl;
        unackeds = length-map us record_u;
        unacked = take-front (map record_u us) (replicate (256 - length (map record_u us)) blank_u);
        remote = refl;
        released = refl;
        queues = length-map fs record_q;
        queue = take-front (map record_q fs) (replicate (256 - length (map record_q fs)) blank_q);
        waits = refl;
        waiting = take-front t.inbox.waiting (replicate (512 - length t.inbox.waiting) 0);
        retries = refl;
        retry = take-front t.inbox.retry (replicate (512 - length t.inbox.retry) 0);
        clock = refl;
        stage = ap (λ (h : Option R.Handoff). record { disposition = t.stage.disposition; setup = t.stage.setup; mode = t.stage.mode; handoff = h; failed = t.stage.failed }) (handoff_is t.stage.handoff);
        handed = handoff_sized t.stage.handoff;
        policy = refl;
        rejects = refl;
        reject = take-front t.fixed.reject (replicate (64 - length t.fixed.reject) 0);
      })

  pub realised_full : Sound t → Full realised
  unfolding realised sound_fixed
  realised_full facts =
      let p = every_true (good_policy t.fixed.policy ∷ good_reject t.fixed.reject ∷ []) facts.3 in
      let pp = every_true (leb t.fixed.policy.messages 256 ∷ leb t.fixed.policy.bytes 32768 ∷ leb t.fixed.policy.body 16384 ∷ []) p.0 in
      let j = every_true (leb 1 (length t.fixed.reject) ∷ leb (length t.fixed.reject) 64 ∷ []) p.1.0 in
      let pm : t.fixed.policy.messages ≤ 256 = leb-true _ _ pp.0 in
      record {
        unacked = length-filled 256 blank_u (map record_u us) (omega (arith, facts.0.few, length-map us record_u));
        queue = length-filled 256 blank_q (map record_q fs) (omega (arith, facts.1.count, length-map fs record_q));
        waiting = length-filled 512 0 t.inbox.waiting (omega (arith, facts.1.room));
        retry = length-filled 512 0 t.inbox.retry (omega (arith, facts.1.few));
        handoff = handoff-full t.stage.handoff facts.2.size;
        reject = length-filled 64 0 t.fixed.reject (leb-true _ _ j.1.0);
      }
