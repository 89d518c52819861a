-- The handoff of a restore, beside the one that there is. Assumes nothing.
use mathlib.Core.Path.{◌≡◌, refl, sym, ap, ◌∙◌}
use mathlib.Core.Bool.{Bool, true, false, ◌&&◌, beq}
use mathlib.Core.List.{[]}
use mathlib.Core.Option.{Option, some}
use Prim.Native.Nat.{ℕ, ◌+◌, ◌≤◌}
use native.Mathlib.Omega.{arith}
use lib.ListN.{length, take, drop, replicate, length-replicate}
use lib.Seq.{take_at}
use borrow.Author.Tests.{eq-eqb, ne_eqb}
use Rattle.rules.specs.declared.Answer.TheVariants.{Done}
use Rattle.rules.specs.declared.Refusal.TheVariants.{OtherHandoff}
use Rattle.rules.specs.Lists.{Bytes, same}
use Rattle.rules.specs.State as R
use Rattle.rules.specs.State.{handoff_is}
use Rattle.rules.specs.Progress.{outcome}
use Rattle.rules.specs.Start.{same_handoff, agrees, restore_terminal}
use Rattle.stores.specs.Placed.{placed}
use Rattle.stores.proofs.Laws.{length-placed}
use Rattle.peer_session.specs.declared.TerminalHandoff.{TerminalHandoff}
use Rattle.peer_session.specs.declared.SessionState.{SessionState}
use Rattle.peer_session.specs.View.{handoff_of, state_of}
use Rattle.session.specs.declared.Returned.{Returned}
use Rattle.session.specs.Promise.{Turned}
use Rattle.setup.proofs.Steps.{turned_is}
use Rattle.restores.specs.Steps.{Handed, Ends}

-- ---- whether two are the same, test by test

last_test : (t : Bool) → t ≡ (t && true)
last_test true = refl
last_test false = refl

module _ (h k : R.Handoff) where
  pub other-id : (h.id ≡ k.id → ⊥) → false ≡ same_handoff h k
  unfolding same_handoff
  other-id e = rw (ne_eqb h.id k.id e)

  module _ (id : h.id ≡ k.id) where
    pub other-number : (h.number ≡ k.number → ⊥) → false ≡ same_handoff h k
    unfolding same_handoff
    other-number e = rw (eq-eqb h.id k.id id, ne_eqb h.number k.number e)

    module _ (number : h.number ≡ k.number) where
      pub other-body : same h.body k.body ≡ false → false ≡ same_handoff h k
      unfolding same_handoff
      other-body e = rw (eq-eqb h.id k.id id, eq-eqb h.number k.number number, e)

      module _ (body : same h.body k.body ≡ true) where
        pub other-sent : beq h.sent k.sent ≡ false → false ≡ same_handoff h k
        unfolding same_handoff
        other-sent e = rw (eq-eqb h.id k.id id, eq-eqb h.number k.number number, body, e)

        pub by_acknowledged : beq h.sent k.sent ≡ true → beq h.acknowledged k.acknowledged ≡ same_handoff h k
        unfolding same_handoff
        by_acknowledged e =
            rw (eq-eqb h.id k.id id, eq-eqb h.number k.number number, body, e)
            (last_test (beq h.acknowledged k.acknowledged))

-- ---- the one given

pub handed-is : (k : R.Handoff) → length k.body ≤ 4096 → (x : Bytes) → x ≡ placed (replicate 4096 0) 0 k.body
    → Handed (some k) (record { body = x; len = length k.body; id = k.id; number = k.number; sent = k.sent; acknowledged = k.acknowledged; present = true })
unfolding placed
handed-is k small x e =
    let z : Bytes = replicate 4096 0 in
    let lz : length z ≡ 4096 = length-replicate {A = ℕ} 4096 0 in
    let front : take (length k.body) x ≡ k.body = ap (take (length k.body)) e ∙ take_at k.body (drop (0 + length k.body) z) (length k.body) refl in
    record {
      is = ap (λ (y : Bytes). some (record { id = k.id; number = k.number; body = y; sent = k.sent; acknowledged = k.acknowledged })) front;
      full = ap length e ∙ length-placed z 0 k.body (omega (arith, small)) ∙ lz;
      size = small;
    }

-- ---- the step

module _ (g : Option R.Handoff) (s : SessionState) where
  pub ends-other : {r : Returned} → agrees (handoff_of s.handoff) g ≡ false → Turned s OtherHandoff r → Ends g s r
  unfolding restore_terminal
  ends-other e t = rw (turned_is t) (record { does = λ o q. rw e refl; exact = λ m n x. x; outbox = refl; queue = refl; events = refl })

-- s with another handoff
abbrev pub with_handoff : TerminalHandoff → SessionState → SessionState
with_handoff h s =
    record {
      outbox = s.outbox;
      remote = s.remote;
      released = s.released;
      queue = s.queue;
      waiting = s.waiting;
      retry = s.retry;
      clock = s.clock;
      stage = s.stage;
      handoff = h;
      policy = s.policy;
      reject = s.reject;
    }

pub ends-handed : (g : Option R.Handoff) (s : SessionState) (h : TerminalHandoff) → agrees (handoff_of s.handoff) g ≡ true → Handed g h
    → Ends g s (record { session = with_handoff h s; answer = Done; events = 0 })
unfolding restore_terminal
ends-handed g s h e w =
    record {
      does = λ o q. rw e (ap (λ (g : Option R.Handoff). outcome (handoff_is g (state_of s o q)) Done []) (sym w.is));
      exact = λ m n x.
          record {
            outbox = x.outbox;
            queued = x.queued;
            rest = record { waiting = x.rest.waiting; retry = x.rest.retry; handoff = w.full; handed = w.size; reject = x.rest.reject; rejects = x.rest.rejects };
          };
      outbox = refl;
      queue = refl;
      events = refl;
    }
