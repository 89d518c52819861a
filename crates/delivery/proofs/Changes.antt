-- What a proposal and a reject change in a turn. Assumes nothing.
use Rattle.std.specs.Prelude.{if◌then◌else◌, Ok, Err}
use mathlib.Core.Path.{◌≡◌, refl, sym, ap, ◌∙◌}
use mathlib.Core.Bool.{Bool, true, false, not, ◌&&◌, ◌||◌, true≢false}
use mathlib.Core.List.{List, [], ◌∷◌, ◌++◌}
use Prim.Native.Nat.{ℕ, ◌+◌, ◌≤◌, ◌<◌}
use native.Mathlib.Omega.{arith}
use lib.ListN.{length}
use lib.Dec.{ltb, eqb}
use borrow.Author.Tests.{lt-ltb, le-ltb, eq-eqb, ne_eqb, not-true, not-false}
use Rattle.rules.proofs.Lists.{empty-is}
use Rattle.rules.specs.declared.Clock.{Clock}
use Rattle.rules.specs.declared.Refusal.TheVariants.{NumbersExhausted, UnackedFull}
use Rattle.rules.specs.Lists.{Bytes, empty, total}
use Rattle.rules.specs.State as R
use Rattle.rules.specs.State.{size_of, unacked_is, disposition_is}
use Rattle.rules.specs.Clock.{raised}
use Rattle.rules.specs.Progress.{stays, halts}
use Rattle.rules.specs.Sending.{exhausted, no_room, fresh, numbered, allocate}
use Rattle.rules.specs.Setup.{reject_session, receive_proposal, discard_outbound}
use Rattle.delivery.specs.declared.Turn.{Turn}
use Rattle.delivery.specs.Turns.{acted, after_sending, during, Under}
use Rattle.delivery.specs.Acts.{Proposes, Rejects}

-- ---- the rule book's, by its tests

module _ (st : R.State) where
  propose_other : eqb st.stage.disposition 4 ≡ false → receive_proposal st ≡ stays (disposition_is 2 st)
  unfolding receive_proposal
  propose_other e =
      ap (λ (t : Bool). if t && empty st.outbox.unacked then reject_session st else if t then stays st else stays (disposition_is 2 st)) e

  propose_by : (t : Bool) → eqb st.stage.disposition 4 ≡ true → empty st.outbox.unacked ≡ t → receive_proposal st ≡ (if t then reject_session st else stays st)
  unfolding receive_proposal
  propose_by t e f =
      ap (λ (t : Bool). if t && empty st.outbox.unacked then reject_session st else if t then stays st else stays (disposition_is 2 st)) e
      ∙ ap (λ (t : Bool). if t then reject_session st else stays st) f

  discard_by : (t : Bool) → empty st.outbox.unacked ≡ t → discard_outbound st ≡ (if t then st else raised (unacked_is [] st))
  unfolding discard_outbound
  discard_by t e = ap (λ (t : Bool). if t then st else raised (unacked_is [] st)) e

module _ (b : Bytes) (d : ℕ) (st : R.State) where
  allocate_spent : exhausted st ≡ true → allocate b d st ≡ halts NumbersExhausted st
  unfolding allocate
  allocate_spent e =
      ap (λ (t : Bool). if t then halts NumbersExhausted st else if no_room b st then halts UnackedFull st else stays (raised (disposition_is d (numbered b st)))) e

  allocate-goes : exhausted st ≡ false → no_room b st ≡ false → allocate b d st ≡ stays (raised (disposition_is d (numbered b st)))
  unfolding allocate
  allocate-goes e f =
      ap (λ (t : Bool). if t then halts NumbersExhausted st else if no_room b st then halts UnackedFull st else stays (raised (disposition_is d (numbered b st)))) e
      ∙ ap (λ (t : Bool). if t then halts UnackedFull st else stays (raised (disposition_is d (numbered b st)))) f

-- a body that alone is unacked has room
alone-fits : (us : List R.Unacked) (b : Bytes) → us ≡ [] → length b ≤ 64 → (ltb 256 (length us + 1) || ltb 65536 (total size_of us + length b)) ≡ false
unfolding total
alone-fits [] b e h = le-ltb 65536 (0 + length b) (omega arith)
alone-fits (u ∷ us) b e h = let z : ◌≡◌ {A = ℕ} 0 1 = cc in absurd (omega arith)

-- ---- the flags

more : {A : Type 0} (xs : List A) (x : A) → empty (xs ++ (x ∷ [])) ≡ false
more [] x = refl
more (y ∷ xs) x = refl

-- nothing is unacked and nothing was dropped: nothing was sent anew
module _ (n : ℕ) (x : Bytes) (us : List R.Unacked) where
  pub record Idle (sent dropped : Bool) : Type 0 where
    pub sent_not : sent ≡ false
    pub dropped_not : dropped ≡ false
    pub nothing : us ≡ []

  idle : (sent dropped : Bool) → (dropped ≡ true → ⊥) → empty (acted sent dropped n x us) ≡ true → Idle sent dropped
  idle true true d e = absurd (d refl)
  idle false true d e = absurd (d refl)
  idle true false d e = absurd (true≢false (sym e ∙ more us (fresh n x)))
  idle false false d e = record { sent_not = refl; dropped_not = refl; nothing = empty-is us e }

  dropped_none : (sent : Bool) → acted sent true n x us ≡ []
  dropped_none true = refl
  dropped_none false = refl

  -- the rejection is sent
  sent-next : (sent : Bool) → sent ≡ false → after_sending sent n + 1 ≡ n + 1
  sent-next sent e = ap (λ (t : Bool). after_sending t n + 1) e

  sent-one : (sent dropped : Bool) → sent ≡ false → dropped ≡ false → acted sent dropped n x us ++ (fresh (after_sending sent n) x ∷ []) ≡ acted true dropped n x us
  sent-one true dropped e f = absurd (true≢false e)
  sent-one false true e f = absurd (true≢false f)
  sent-one false false e f = refl

-- ---- turns

abbrev raised-clock : Clock → Clock
raised-clock c = record { last_replay_at = c.last_replay_at; generation = c.generation + 1; released = c.released; persisted = c.persisted }

abbrev acting : Turn → Clock → ℕ → Bool → Bool → Bool → Turn
acting t c d unacked sent dropped =
    record { mode = t.mode; failed = t.failed; remote = t.remote; clock = c; disposition = d; next = t.next; unacked = unacked; sent = sent; dropped = dropped }

module _ (t : Turn) where
  -- another disposition, with the flags as they were
  under-other : (d : ℕ) → (d ≡ 4 → ⊥) → (s : R.State) → Under s t → Under s (acting t t.clock d t.unacked t.sent t.dropped)
  under-other d h s u = record { mode = u.mode; failed = u.failed; next = u.next; unacked = u.unacked; alone = u.alone; inbound = λ e. h; reject = u.reject }

  pub proposal_other : (t.disposition ≡ 4 → ⊥) → Proposes t (Ok (acting t t.clock 2 t.unacked t.sent t.dropped))
  proposal_other h =
      record {
        does = λ s fs ws u. propose_other (during s fs ws t) (ne_eqb t.disposition 4 h);
        under = under-other 2 (λ e. omega arith);
        remote = refl;
        slow = omega arith;
      }

  pub reject-none : t.unacked ≡ false → Rejects t (acting t t.clock 3 t.unacked t.sent t.dropped)
  reject-none e =
      record {
        does = λ s fs ws u. discard_by (disposition_is 3 (during s fs ws t)) true (not-false _ (sym u.unacked ∙ e));
        under = under-other 3 (λ z. omega arith);
        remote = refl;
        slow = omega arith;
      }

  pub reject_some : t.unacked ≡ true → Rejects t (acting t (raised-clock t.clock) 3 false t.sent true)
  reject_some e =
      record {
        does = λ s fs ws u. discard_by (disposition_is 3 (during s fs ws t)) false (not-true _ (sym u.unacked ∙ e))
            ∙ ap (λ (us : List R.Unacked). raised (unacked_is us (disposition_is 3 (during s fs ws t)))) (sym (dropped_none s.outbox.next s.fixed.reject s.outbox.unacked t.sent));
        under = λ s u.
            record {
              mode = u.mode;
              failed = u.failed;
              next = u.next;
              unacked = ap (λ (us : List R.Unacked). not (empty us)) (sym (dropped_none s.outbox.next s.fixed.reject s.outbox.unacked t.sent));
              alone = u.alone;
              inbound = λ z y. omega arith;
              reject = u.reject;
            };
        remote = refl;
        slow = omega arith;
      }

  module _ (h : t.disposition ≡ 4) where
    pub proposal_stands : t.unacked ≡ true → Proposes t (Ok t)
    proposal_stands e =
        record {
          does = λ s fs ws u. propose_by (during s fs ws t) false (eq-eqb t.disposition 4 h) (not-true _ (sym u.unacked ∙ e));
          under = λ s u. u;
          remote = refl;
          slow = omega arith;
        }

    module _ (e : t.unacked ≡ false) where
      still : (s : R.State) → Under s t → Idle s.outbox.next s.fixed.reject s.outbox.unacked t.sent t.dropped
      still s u = idle s.outbox.next s.fixed.reject s.outbox.unacked t.sent t.dropped (λ d. u.inbound d h) (not-false _ (sym u.unacked ∙ e))

      again : (s : R.State) (fs : List R.Frame) (ws : List ℕ) → Under s t → receive_proposal (during s fs ws t) ≡ reject_session (during s fs ws t)
      again s fs ws u = propose_by (during s fs ws t) true (eq-eqb t.disposition 4 h) (not-false _ (sym u.unacked ∙ e))

      -- the number that it would be given
      number : (s : R.State) → Under s t → after_sending t.sent s.outbox.next ≡ t.next
      number s u = ap (λ (b : Bool). after_sending b s.outbox.next) (still s u).sent_not ∙ sym u.next

      pub proposal_spent : 4294967295 < t.next → Proposes t (Err NumbersExhausted)
      proposal_spent k =
          record {
            does = λ s fs ws u.
                again s fs ws u ∙ allocate_spent s.fixed.reject 4 (during s fs ws t) (ap (ltb 4294967295) (number s u) ∙ lt-ltb 4294967295 t.next k);
            under = λ s u. u;
            remote = refl;
            slow = omega arith;
          }

      pub proposal_again : t.next ≤ 4294967295 → Proposes t (Ok (acting t (raised-clock t.clock) t.disposition true true t.dropped))
      unfolding numbered
      proposal_again k =
          record {
            does = λ s fs ws u.
                let n : ℕ = s.outbox.next in
                let x : Bytes = s.fixed.reject in
                let us : List R.Unacked = s.outbox.unacked in
                let i : Idle n x us t.sent t.dropped = still s u in
                let none : acted t.sent t.dropped n x us ≡ [] = empty-is _ (not-false _ (sym u.unacked ∙ e)) in
                again s fs ws u
                ∙ allocate-goes x 4 (during s fs ws t) (ap (ltb 4294967295) (number s u) ∙ le-ltb 4294967295 t.next k)
                (alone-fits (acted t.sent t.dropped n x us) x none u.reject)
                ∙ ap (λ (o : R.Outbox). stays (raised (disposition_is 4 (record { outbox = o; inbox = (during s fs ws t).inbox; clock = t.clock; stage = (during s fs ws t).stage; fixed = s.fixed }))))
                (cc (sent-next n x us t.sent i.sent_not, sent-one n x us t.sent t.dropped i.sent_not i.dropped_not))
                ∙ ap (λ (d : ℕ). stays (during s fs ws (acting t (raised-clock t.clock) d true true t.dropped))) (sym h);
            under = λ s u.
                let i : Idle s.outbox.next s.fixed.reject s.outbox.unacked t.sent t.dropped = still s u in
                record {
                  mode = u.mode;
                  failed = u.failed;
                  next = u.next;
                  unacked =
                      sym (ap not (more s.outbox.unacked (fresh s.outbox.next s.fixed.reject)))
                      ∙ ap (λ (d : Bool). not (empty (acted true d s.outbox.next s.fixed.reject s.outbox.unacked))) (sym i.dropped_not);
                  alone = λ z. i.nothing;
                  inbound = u.inbound;
                  reject = u.reject;
                };
            remote = refl;
            slow = omega arith;
          }
