-- `accept_session`, `reject_session` and `prepare_channel`, test by test. Assumes nothing.
use mathlib.Core.Path.{◌≡◌, refl, ap}
use mathlib.Core.Bool.{Bool, true, false}
use mathlib.Core.List.{List, []}
use Prim.Native.Nat.{ℕ, ◌≤◌, ◌<◌}
use native.Mathlib.Omega.{arith}
use lib.ListN.{length, replicate, length-replicate}
use borrow.Author.Tests.{le-leb, lt-leb, eq-eqb, ne_eqb}
use Rattle.rules.specs.declared.Terms.{Terms}
use Rattle.rules.specs.declared.Setup.{Setup}
use Rattle.rules.specs.declared.Setup.TheVariants.{Waiting}
use Rattle.rules.specs.declared.Answer.TheVariants.{Done, Refused}
use Rattle.rules.specs.declared.Refusal.TheVariants.{GenerationsExhausted, AlreadyAccepted, ProposalNotFirst}
use Rattle.rules.specs.Lists.{Bytes}
use Rattle.rules.specs.State as R
use Rattle.rules.specs.State.{disposition_is, setup_is}
use Rattle.rules.specs.Progress.{outcome}
use Rattle.rules.specs.Setup.{is_none, accept, reject, prepare_in, prepare_channel}
use Rattle.rules.specs.Calls.{Call, accepts, rejects, prepares_channel, step}
use Rattle.rules.specs.Buffers.{taken_by, wrong_code, queue_reach}
use Rattle.events.proofs.Laws.{listed-none}
use Rattle.peer_session.specs.declared.SessionState.{SessionState}
use Rattle.peer_session.specs.View.{state_of, Exact}
use Rattle.peer_session.specs.Sound.{sound_of, Full}
use Rattle.session.specs.declared.Returned.{Returned}
use Rattle.session.specs.Promise.{lent, Called}
use Rattle.session.proofs.Lengths.{not_taken}
use Rattle.session.proofs.Entry.{Entered, entered}
use Rattle.setup.specs.Steps.{staged, proposing, rejecting}
use Rattle.setup.proofs.Lending.{Plain, leaves}
use Rattle.outbox.proofs.View.{stays-packed}
use Rattle.setup.proofs.Steps.{exact-staged}

-- ---- accept

pub accepting : {terms : Terms} {b : Bytes} → Plain (accepts terms b) false true false
unfolding taken_by wrong_code queue_reach
accepting = record { taken = refl; known = refl; reach = λ t. refl }

module _ (terms : Terms) (b : Bytes) (t : R.State) where
  pub accept_spent : 4294966000 ≤ t.clock.generation → step (accepts terms b) t ≡ outcome t (Refused GenerationsExhausted) []
  unfolding step accept
  accept_spent h = rw (le-leb 4294966000 t.clock.generation h)

  module _ (h : t.clock.generation < 4294966000) where
    pub accept-again : is_none t.stage.setup ≡ false → step (accepts terms b) t ≡ outcome t (Refused AlreadyAccepted) []
    unfolding step accept
    accept-again e = rw (lt-leb 4294966000 t.clock.generation h, e)

    module _ (new : is_none t.stage.setup ≡ true) where
      pub accept_plain : terms.initiator ≡ false → step (accepts terms b) t ≡ outcome (setup_is (Waiting terms) (disposition_is 1 t)) Done []
      unfolding step accept
      accept_plain e = rw (lt-leb 4294966000 t.clock.generation h, new, e)

      pub accept_late : terms.initiator ≡ true → (t.outbox.next ≡ 1 → ⊥) → step (accepts terms b) t ≡ outcome t (Refused ProposalNotFirst) []
      unfolding step accept
      accept_late e n = rw (lt-leb 4294966000 t.clock.generation h, new, e, ne_eqb t.outbox.next 1 n)

      pub accept-first : terms.initiator ≡ true → t.outbox.next ≡ 1 → step (accepts terms b) t ≡ proposing terms b t
      unfolding step accept
      accept-first e n = rw (lt-leb 4294966000 t.clock.generation h, new, e, eq-eqb t.outbox.next 1 n)

-- a session that waits from now on, and nothing else
module _ {c : Call} {to : Bool} (p : Plain c false to false) (s : SessionState) (l : List ℕ) (d o q : Bytes) (lo : to ≡ true → 65536 ≤ length o)
    (sound : sound_of s ≡ true) (full : Full s) (ol : 65536 ≤ length o) (ql : 32768 ≤ length q) where
  exact : Exact s (length o) (length q)
  exact = (entered s o q sound full ol ql).good.exact

  pub waits : (k : ℕ) (setup : Setup) {r : Returned} → r ≡ record { session = staged k setup s; answer = Done; events = 0 }
      → step c (state_of s o q) ≡ outcome (state_of (staged k setup s) o q) Done [] → Called c s (lent l d o q) r (lent l d o q)
  waits k setup h e =
      rw h
      (leaves p s l d o q not_taken lo not_taken sound full ol ql
      (record {
        shown = [];
        does = e;
        exact = exact-staged k setup s exact;
        listed = listed-none l 0;
        quiet = λ x. refl;
        outbound = λ x. stays-packed s.outbox o exact.outbox;
        no_outbound = λ x. refl;
        queue = not_taken;
        no_queue = λ x. refl;
      }))

-- ---- reject

pub rejects_plain : Plain rejects true true false
unfolding taken_by wrong_code queue_reach
rejects_plain = record { taken = refl; known = refl; reach = λ t. refl }

pub reject_spent : (t : R.State) → 4294966000 ≤ t.clock.generation → step rejects t ≡ outcome t (Refused GenerationsExhausted) []
unfolding step reject
reject_spent t h = rw (le-leb 4294966000 t.clock.generation h)

pub reject-goes : (t : R.State) → t.clock.generation < 4294966000 → step rejects t ≡ rejecting t
unfolding step reject
reject-goes t h = rw (lt-leb 4294966000 t.clock.generation h)

-- the reject body lies within its array
pub reject-within : (s : SessionState) (o : Bytes) → sound_of s ≡ true → Full s → 65536 ≤ length o → s.reject.len ≤ length s.reject.bytes
reject-within s o sound full lo =
    let q : Bytes = replicate 32768 0 in
    let lq : length q ≡ 32768 = length-replicate {A = ℕ} 32768 0 in
    let i : Entered s o q = entered s o q sound full lo (omega arith) in
    omega (arith, i.good.exact.rest)

-- ---- prepare channel

pub preparing : {terms : Terms} → Plain (prepares_channel terms) false false false
unfolding taken_by wrong_code queue_reach
preparing = record { taken = refl; known = refl; reach = λ t. refl }

pub prepare_is : (terms : Terms) (t : R.State) (setup : Setup) → t.stage.setup ≡ setup → step (prepares_channel terms) t ≡ prepare_in setup terms t
unfolding step prepare_channel
prepare_is terms t setup e = ap (λ (x : Setup). prepare_in x terms t) e
