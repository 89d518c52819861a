-- What a mode does with a message, and a delivery, against the rule book. Assumes nothing.
use mathlib.Core.Path.{◌≡◌, refl, sym, ap, ◌∙◌, subst}
use mathlib.Core.Logic.{◌⊎◌, inl, inr}
use mathlib.Core.List.{List}
use Prim.Native.Nat.{ℕ, ◌+◌, ◌≤◌}
use native.Mathlib.Omega.{arith}
use lib.ListN.{length}
use borrow.Author.Tests.{eq-eqb, ne_eqb}
use Rattle.rules.specs.declared.ReceiveMode.{ReceiveMode}
use Rattle.rules.specs.declared.ReceiveMode.TheVariants.{Raw, Proposal, Channel, Rejection, Retiring}
use Rattle.rules.specs.declared.Refusal.{Refusal}
use Rattle.rules.specs.declared.Refusal.TheVariants.{NotAProposal}
use Rattle.rules.specs.Lists.{Bytes}
use Rattle.rules.specs.State as R
use Rattle.rules.specs.Progress.{Progress, stays, halts, ◌then◌, request}
use Rattle.rules.specs.Setup.{receive_proposal}
use Rattle.rules.specs.Receiving.{delivered, hand_over, consume, confirm, deliver}
use Rattle.rules.proofs.Progress.{listing_none}
use Rattle.std.specs.Prelude.{None, Some, Result, Ok, Err}
use Rattle.events.specs.Written.{Listed, asked, Books, books, Within, final, ends}
use Rattle.events.proofs.Laws.{write-none, then_goes, then_stops}
use Rattle.delivery.specs.declared.Turn.{Turn}
use Rattle.delivery.specs.declared.Step.{Step}
use Rattle.delivery.specs.Turns.{during, Under, step_at, Ready, Consumed, Delivered, left_by, acked_by}
use Rattle.delivery.specs.Acts.{HandedOver, Proposes, Rejects, Did, rejected, taken, answered}
use Rattle.delivery.proofs.Written.{write-message, write-asked, few-asked}

pub ready-within : {t : Turn} {len : ℕ} (l : List ℕ) (n : ℕ) (d : Bytes) (at : ℕ) → Ready t len (length l) n (length d) at → Within (books l n d at)
ready-within l n d at r = record { listed = omega (arith, r.room); filled = omega (arith, r.bytes) }

-- ---- steps that leave the turn as it is

module _ (t : Turn) (b : Books) where
  pub did_stays : (len : ℕ) → Did (λ s. stays s) len t b (Ok (step_at t b.n b.at)) b.list b.delivery
  did_stays len =
      record {
        does = λ s fs ws us u. ap (ends None (during s fs ws t)) (write-none us b);
        under = λ s u. u;
        remote = refl;
        slow = omega arith;
        few = omega arith;
        short = omega arith;
      }

  pub did_halts : (x : Refusal) (len : ℕ) → Did (λ s. halts x s) len t b (Err x) b.list b.delivery
  did_halts x len =
      record {
        does = λ s fs ws us u. ap (ends (Some x) (during s fs ws t)) (write-none us b);
        under = λ s u. u;
        remote = refl;
        slow = omega arith;
        few = omega arith;
        short = omega arith;
      }

  pub did_message : (f : R.Frame) {y : Step} {l' : List ℕ} {d' : Bytes} → HandedOver f.number f.body b.list b.n b.delivery b.at l' d'
      → y ≡ step_at t (b.n + 1) (b.at + length f.body) → Did (hand_over f) (length f.body) t b (Ok y) l' d'
  did_message f {y} {l'} {d'} h e =
      subst (λ (z : Step). Did (hand_over f) (length f.body) t b (Ok z) l' d') (sym e)
      (record {
        does = λ s fs ws us u. ap (ends None (during s fs ws t)) (write-message f.number f.body b l' d' h us);
        under = λ s u. u;
        remote = refl;
        slow = omega arith;
        few = omega arith;
        short = omega arith;
      })

  pub did_request : (len : ℕ) {y : Step} {l' : List ℕ} → Listed (asked t.clock) b.list b.n l' y.events → y ≡ step_at t y.events b.at
      → Did request len t b (Ok y) l' b.delivery
  unfolding request
  did_request len {y} {l'} h e =
      subst (λ (z : Step). Did request len t b (Ok z) l' b.delivery) (sym e)
      (record {
        does = λ s fs ws us u. ap (ends None (during s fs ws t)) (write-asked t.clock b l' y.events h us);
        under = λ s u. u;
        remote = refl;
        slow = omega arith;
        few = few-asked t.clock b l' y.events h;
        short = omega arith;
      })

-- ---- a step after what changes the turn and lists nothing

module _ (t : Turn) (b : Books) (len : ℕ) where
  pub proposal_then : {a : Turn} → Proposes t (Ok a) → (g : R.State → Progress) → {y : Step} {l' : List ℕ} {d' : Bytes} → y.turn ≡ a
      → Did g len a b (Ok y) l' d' → Did (λ s. receive_proposal s then g) len t b (Ok y) l' d'
  proposal_then {a} p g e h =
      record {
        does = λ s fs ws us u.
            ap (λ (q : Progress). final us (q then g) b) (p.does s fs ws u)
            ∙ ap (λ (q : Progress). final us q b) (listing_none (g (during s fs ws a)))
            ∙ h.does s fs ws us (p.under s u);
        under = λ s u. h.under s (p.under s u);
        remote = h.remote ∙ p.remote;
        slow = omega (arith, p.slow, ap (λ (z : Turn). z.clock.generation) e);
        few = h.few;
        short = h.short;
      }

  pub proposal_refused : {x : Refusal} → Proposes t (Err x) → (g : R.State → Progress)
      → Did (λ s. receive_proposal s then g) len t b (Err x) b.list b.delivery
  proposal_refused {x} p g =
      record {
        does = λ s fs ws us u.
            ap (λ (q : Progress). final us (q then g) b) (p.does s fs ws u)
            ∙ ap (ends (Some x) (during s fs ws t)) (write-none us b);
        under = p.under;
        remote = p.remote;
        slow = p.slow;
        few = omega arith;
        short = omega arith;
      }

  pub reject_then : {a : Turn} → Rejects t a → {y : Step} {l' : List ℕ} {d' : Bytes} → y.turn ≡ a → Did request len a b (Ok y) l' d'
      → Did rejected len t b (Ok y) l' d'
  reject_then {a} p e h =
      record {
        does = λ s fs ws us u.
            ap (λ (z : R.State). final us (stays z then request) b) (p.does s fs ws u)
            ∙ ap (λ (q : Progress). final us q b) (listing_none (request (during s fs ws a)))
            ∙ h.does s fs ws us (p.under s u);
        under = λ s u. h.under s (p.under s u);
        remote = h.remote ∙ p.remote;
        slow = omega (arith, p.slow, ap (λ (z : Turn). z.clock.generation) e);
        few = h.few;
        short = h.short;
      }

-- ---- `consume` by its tests

module _ (f : R.Frame) (st : R.State) where
  pub raw_is : consume Raw f st ≡ hand_over f st
  unfolding consume
  raw_is = refl

  pub idle_is : (m : ReceiveMode) → (m ≡ Channel) ⊎ (m ≡ Retiring) → consume m f st ≡ stays st
  unfolding consume
  idle_is m (inl e) = rw e refl
  idle_is m (inr e) = rw e refl

  pub proposal_reject : f.kind ≡ 2 → consume Proposal f st ≡ rejected st
  unfolding consume
  proposal_reject h = rw (eq-eqb f.kind 2 h) refl

  pub proposal_first : (f.kind ≡ 2 → ⊥) → f.number ≡ 1 → f.kind ≡ 1 → consume Proposal f st ≡ taken f st
  unfolding consume
  proposal_first h p q = rw (ne_eqb f.kind 2 h, eq-eqb f.number 1 p, eq-eqb f.kind 1 q) refl

  pub proposal_another : (f.kind ≡ 2 → ⊥) → ((f.number ≡ 1) × (f.kind ≡ 1 → ⊥)) ⊎ (f.number ≡ 1 → ⊥) → consume Proposal f st ≡ halts NotAProposal st
  unfolding consume
  proposal_another h (inl (p, q)) = rw (ne_eqb f.kind 2 h, eq-eqb f.number 1 p, ne_eqb f.kind 1 q) refl
  proposal_another h (inr p) = rw (ne_eqb f.kind 2 h, ne_eqb f.number 1 p) refl

  pub rejection_first : f.number ≡ 1 → f.kind ≡ 1 → consume Rejection f st ≡ answered st
  unfolding consume
  rejection_first p q = rw (eq-eqb f.number 1 p, eq-eqb f.kind 1 q) refl

  pub rejection_another : ((f.number ≡ 1) × (f.kind ≡ 1 → ⊥)) ⊎ (f.number ≡ 1 → ⊥) → consume Rejection f st ≡ stays st
  unfolding consume
  rejection_another (inl (p, q)) = rw (eq-eqb f.number 1 p, ne_eqb f.kind 1 q) refl
  rejection_another (inr p) = rw (ne_eqb f.number 1 p) refl

pub did_consumed : {t : Turn} {m : ReceiveMode} {p : R.State → Progress} {len : ℕ} {b : Books} {r : Result Step Refusal} {l' : List ℕ} {d' : Bytes} (f : R.Frame)
    → t.mode ≡ m → ((st : R.State) → consume m f st ≡ p st) → len ≤ length f.body → Did p len t b r l' d' → Consumed f t b r l' d'
did_consumed {t} {m} {p} {len} {b} {r} {l'} {d'} f e c h g =
    record {
      does = λ s fs ws us u.
          ap (λ (k : ReceiveMode). final us (consume k f (during s fs ws t)) b) (sym u.mode ∙ e)
          ∙ ap (λ (q : Progress). final us q b) (c (during s fs ws t))
          ∙ g.does s fs ws us u;
      under = g.under;
      remote = g.remote;
      slow = g.slow;
      few = g.few;
      short = omega (arith, g.short);
    }

-- ---- a delivery

abbrev confirmed : ℕ → Turn → Turn
confirmed n t =
    record {
      mode = t.mode;
      failed = t.failed;
      remote = n;
      clock =
          record {
            last_replay_at = t.clock.last_replay_at;
            generation = t.clock.generation + 1;
            released = t.clock.released;
            persisted = t.clock.persisted;
          };
      disposition = t.disposition;
      next = t.next;
      unacked = t.unacked;
      sent = t.sent;
      dropped = t.dropped;
    }

under_confirmed : (n : ℕ) (t : Turn) (s : R.State) → Under s t → Under s (confirmed n t)
under_confirmed n t s u =
    record { mode = u.mode; failed = u.failed; next = u.next; unacked = u.unacked; alone = u.alone; inbound = u.inbound; reject = u.reject }

module _ (f : R.Frame) (t : Turn) (b : Books) (l' : List ℕ) (d' : Bytes) where
  pub deliver-stops : {x : Refusal} → Consumed f t b (Err x) l' d' → Delivered f t b (Err x) l' d'
  unfolding deliver
  deliver-stops {x} c =
      record {
        does = λ s fs ws us u.
            then_stops us (consume s.stage.mode f (during s fs ws t)) (confirm f.number) b (books l' b.n d' b.at) x (during s fs ws t) (c.does s fs ws us u);
        under = c.under;
        remote = λ z. let y : ◌≡◌ {A = ℕ} 0 1 = cc in absurd (omega arith);
        slow = omega (arith, c.slow);
        few = omega (arith, c.few);
        short = c.short;
      }

  pub deliver-goes : (w : Within b) (a : Step) → Consumed f t b (Ok a) l' d' → {y : Step} {l'' : List ℕ}
      → Listed (asked (confirmed f.number a.turn).clock) l' a.events l'' y.events → y ≡ step_at (confirmed f.number a.turn) y.events a.at
      → Delivered f t b (Ok y) l'' d'
  unfolding deliver request delivered
  deliver-goes w a c {y} {l''} h e =
      let after : Books = books l' a.events d' a.at in
      subst (λ (z : Step). Delivered f t b (Ok z) l'' d') (sym e)
      (record {
        does = λ s fs ws us u.
            then_goes us (consume s.stage.mode f (during s fs ws t)) (confirm f.number) b after (during s fs ws a.turn) w (c.does s fs ws us u)
            ∙ ap (ends None (during s (left_by None f.number fs) (acked_by None f.number ws) (confirmed f.number a.turn)))
            (write-asked (confirmed f.number a.turn).clock after l'' y.events h us);
        under = λ s u. under_confirmed f.number a.turn s (c.under s u);
        remote = λ z. refl;
        slow = omega (arith, c.slow);
        few = omega (arith, c.few, few-asked (confirmed f.number a.turn).clock after l'' y.events h);
        short = c.short;
      })
