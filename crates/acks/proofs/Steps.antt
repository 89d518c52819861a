-- The steps of an ack: what it lists, and what it leaves. Assumes nothing.
use Rattle.std.specs.Prelude.{if◌then◌else◌}
use mathlib.Core.Path.{◌≡◌, refl, sym, ap, ◌∙◌}
use mathlib.Core.Bool.{Bool, true, false, ◌&&◌, ◌||◌}
use mathlib.Core.List.{List, [], ◌∷◌}
use mathlib.Core.Option.{Option, none, some}
use Prim.Native.Nat.{ℕ, ◌*◌, ◌≤◌}
use native.Mathlib.Omega.{arith}
use lib.ListN.{length, take}
use lib.Dec.{leb, ltb, eqb}
use Rattle.stores.specs.Placed.{placed}
use Rattle.rules.specs.declared.Clock.{Clock}
use Rattle.rules.specs.declared.Refusal.TheVariants.{AckOutOfRange}
use Rattle.rules.specs.declared.Answer.TheVariants.{Flag}
use Rattle.rules.specs.Lists.{Bytes, kept, packed}
use Rattle.rules.specs.State as R
use Rattle.rules.specs.State.{body_of, unacked_is, handoff_is, is_raw}
use Rattle.rules.specs.Clock.{raised}
use Rattle.rules.specs.Events.{Event, commit_requested, acknowledged, rejection_acknowledged, failure, listed}
use Rattle.rules.specs.Setup.{rejection_complete}
use Rattle.rules.specs.Acks.{survives, acknowledge, acknowledged_by}
use Rattle.rules.specs.Buffers.{flat, repacked}
use Rattle.events.specs.Emitted.{EmittedIf}
use Rattle.events.specs.Written.{Listed, asked}
use Rattle.events.proofs.Emitted.{emitted_listed}
use Rattle.events.proofs.Laws.{listed_then}
use Rattle.outbox.specs.declared.Outbox.{Outbox}
use Rattle.outbox.specs.View.{end_u, unacked_of, ExactOutbox}
use Rattle.outbox.specs.Steps.{Left}
use Rattle.outbox.proofs.View.{exact-count}
use Rattle.peer_session.specs.declared.SessionState.{SessionState}
use Rattle.peer_session.specs.declared.TerminalHandoff.{TerminalHandoff}
use Rattle.peer_session.specs.View.{handoff_of, state_of}
use Rattle.peer_session.proofs.Held.{outbox_cong, stage_cong, state_cong}
use Rattle.acks.specs.Steps.{clock_after, Acknowledges, notices, Acked}

-- ---- what is listed

-- a request lists one event at most
pub asked-few : (c : Clock) {l l' : List ℕ} {n' : ℕ} → Listed (asked c) l 0 l' n' → n' ≤ 1
asked-few c {l} {l'} {n'} h = omega (arith, (h []).count, few (ltb c.persisted c.generation))
  where
    few : (b : Bool) → length {A = Event} (if b then (commit_requested ∷ []) else []) ≤ 1
    few true = omega arith
    few false = omega arith

-- the two notices of an ack, and the failure, by their words
pub notices-listed : (k : ℕ) (b c : Bool) {l l' l'' : List ℕ} {n n' n'' : ℕ} → 4 * n ≤ length l → EmittedIf b 4 0 0 0 l n l' n'
    → EmittedIf c 3 k 0 0 l' n' l'' n'' → Listed (notices k b c) l n l'' n''
unfolding flat listed
notices-listed k b c room h g us =
    listed_then room (emitted_listed us rejection_acknowledged b h (λ at. refl)) (emitted_listed us (acknowledged k) c g (λ at. refl))

pub failure-listed : {l l' : List ℕ} → l' ≡ placed l (4 * 0) (7 ∷ 7 ∷ 0 ∷ 0 ∷ []) → Listed (failure AckOutOfRange ∷ []) l 0 l' 1
unfolding flat listed
failure-listed w us = record { count = refl; words = λ at. w }

-- ---- what an ack leaves

module _ (h : TerminalHandoff) (flag : Bool) where
  abbrev flagged : TerminalHandoff
  flagged = record { body = h.body; len = h.len; id = h.id; number = h.number; sent = h.sent; acknowledged = flag; present = h.present }

  abbrev with_flag : Bool → R.Handoff
  with_flag b = record { id = h.id; number = h.number; body = take h.len h.body; sent = h.sent; acknowledged = b }

  handoff-acked : (n : ℕ) → flag ≡ (h.acknowledged || (h.sent && leb h.number n)) → acknowledged_by n (handoff_of h) ≡ handoff_of flagged
  handoff-acked n e = go h.present
    where
      go : (b : Bool) → acknowledged_by n (if b then some (with_flag h.acknowledged) else none) ≡ (if b then some (with_flag flag) else none)
      go true = ap (λ (b : Bool). some (with_flag b)) (sym e)
      go false = refl

-- the rule by its test, and the clock and handoff that it leaves
acked_if : (n : ℕ) (t : R.State) (us : List R.Unacked) (b : Bool) {next : ℕ} {vs : List R.Unacked} {c : Clock} {h : Option R.Handoff}
    → next ≡ t.outbox.next → vs ≡ us → c ≡ clock_after b t.clock → acknowledged_by n t.stage.handoff ≡ h
    → (let x : R.State = if b then unacked_is us t else raised (unacked_is us t) in handoff_is (acknowledged_by n x.stage.handoff) x)
    ≡ record { outbox = record { next = next; unacked = vs }; inbox = t.inbox; clock = c; stage = record { disposition = t.stage.disposition; setup = t.stage.setup; mode = t.stage.mode; handoff = h; failed = t.stage.failed }; fixed = t.fixed }
acked_if n t us true e f g i = state_cong (outbox_cong (sym e) (sym f)) refl (sym g) (stage_cong refl refl refl i refl) refl
acked_if n t us false e f g i = state_cong (outbox_cong (sym e) (sym f)) refl (sym g) (stage_cong refl refl refl i refl) refl

module _ (n : ℕ) (s : SessionState) (o : Bytes) (x : Outbox) (o' : Bytes) (c : Clock) (flag : Bool) where
  abbrev next : SessionState
  next =
      record {
        outbox = x;
        remote = s.remote;
        released = s.released;
        queue = s.queue;
        waiting = s.waiting;
        retry = s.retry;
        clock = c;
        stage = s.stage;
        handoff = flagged s.handoff flag;
        policy = s.policy;
        reject = s.reject;
      }

  pub acknowledges : ExactOutbox s.outbox (length o) → Left s.outbox o (kept (survives n) (unacked_of s.outbox o)) x o'
      → c ≡ clock_after (eqb x.count s.outbox.count) s.clock → flag ≡ (s.handoff.acknowledged || (s.handoff.sent && leb s.handoff.number n))
      → Acknowledges n s o next o'
  unfolding acknowledge
  acknowledges ex left ec eh =
      let us : List R.Unacked = kept (survives n) (unacked_of s.outbox o) in
      let k : x.count ≡ length us = exact-count x o' left.repacked.exact ∙ ap length left.repacked.unacked in
      let m : s.outbox.count ≡ length (unacked_of s.outbox o) = exact-count s.outbox o ex in
      let b : clock_after (eqb x.count s.outbox.count) s.clock ≡ clock_after (eqb (length us) (length (unacked_of s.outbox o))) s.clock =
      ap (λ (i : ℕ). clock_after (eqb i s.outbox.count) s.clock) k ∙ ap (λ (i : ℕ). clock_after (eqb (length us) i) s.clock) m in
      record {
        does = λ q.
            acked_if n (state_of s o q) us (eqb (length us) (length (unacked_of s.outbox o))) left.next left.repacked.unacked (ec ∙ b) (handoff-acked s.handoff flag n eh);
        exact = λ size e.
            record {
              outbox = left.repacked.exact;
              queued = e.queued;
              rest = record { waiting = e.rest.waiting; retry = e.rest.retry; handoff = e.rest.handoff; handed = e.rest.handed; reject = e.rest.reject; rejects = e.rest.rejects };
            };
        bytes = left.repacked.bytes ∙ ap (λ (ms : List R.Unacked). repacked (end_u s.outbox) (packed body_of ms) o) (sym left.repacked.unacked);
        next = left.next;
        queue = refl;
      }

-- ---- both together

module _ (n : ℕ) (s : SessionState) (l : List ℕ) (o : Bytes) (r : SessionState) (o' : Bytes) where
  pub acked-is : {b c : Bool} {l' l'' : List ℕ} {k m : ℕ} → Acknowledges n s o r o' → Listed (asked r.clock) l 0 l' k
      → ((p q : Bytes) → b ≡ rejection_complete (state_of r p q)) → c ≡ is_raw r.stage.mode → Listed (notices n b c) l' k l'' m
      → Acked n s l o (record { session = r; answer = Flag true; events = m }) l'' o'
  acked-is {b} {c} {l'} {l''} {k} {m} a li eb ec lj =
      record {
        leaves = a;
        answer = refl;
        listed = λ q us.
            rw (← eb o' q, ← ec) (listed_then (omega arith) (li us) (lj us));
      }
