-- A command on the parts of a session: its tests, and the call. Assumes nothing.
use Rattle.std.specs.Prelude.{Err}
use Prim.Native.Nat.{ℕ, ◌≤◌, ◌<◌}
use mathlib.Core.Path.{◌≡◌, refl, sym, ◌∙◌}
use mathlib.Core.Bool.{Bool, true, false, true≢false}
use mathlib.Core.List.{List}
use mathlib.Core.Option.{Option}
use native.Mathlib.Omega.{arith}
use lib.Ieee.{Float}
use lib.ListN.{length}
use Rattle.rules.specs.declared.Answer.TheVariants.{Refused}
use Rattle.rules.specs.declared.Refusal.{Refusal}
use Rattle.rules.specs.declared.Refusal.TheVariants.{HandoffTooLong}
use Rattle.rules.specs.Lists.{Bytes}
use Rattle.rules.specs.Handoff.{Command, command_size}
use Rattle.rules.specs.Calls.{commands}
use Rattle.rules.specs.Buffers.{taken_by, short, wrong_code, queue_reach}
use Rattle.outbox.specs.View.{ExactOutbox}
use Rattle.peer_session.specs.View.{state_of}
use Rattle.session.specs.Promise.{lent, CalledWithOutbound}
use Rattle.session.specs.Entry as Tests
use Rattle.session.specs.Entry.{any_length}
use Rattle.session.proofs.Entries.{stops}
use Rattle.session.proofs.Lengths.{not_taken}
use Rattle.setup.proofs.Lending as L
use Rattle.handoffs.specs.Commands.{commanding, Holding}
use Rattle.handoffs.proofs.Commands.{plain, spent, too_long, holding, carries_out}
use Rattle.parts.specs.declared.LinkAnswer.{LinkAnswer}
use Rattle.parts.specs.Codes.{answer_of}
use Rattle.parts.specs.Parts.{Parts, parts, at, flag, outbox_in, opened_of}
use Rattle.parts.specs.Driven.{Driven}
use Rattle.parts.proofs.Drives.{refuses}
use Rattle.link_sound.proofs.Lengths.{bytes-long}
use Rattle.link_sound.proofs.Parts.{usable}
use Rattle.link_sending.specs.Sends.{Ready}
use Rattle.link_handoffs.specs.Commands.{NotCommanding, Enters, Starts, ComesIn, HoldingIn}
use Rattle.link_handoffs.proofs.Steps.{started, still_checked, still_low}

-- ---- the tests

pub stopped_at_entry : {p : Parts} {n m k : ℕ} {x : Refusal} → Tests.Enters (opened_of p) n any_length m any_length false true (Err x) → NotCommanding p n m k x
unfolding taken_by short wrong_code queue_reach
stopped_at_entry {p} en =
    record {
      call = λ restoring c e l o d q el eo lq r t.
          stops (commands restoring c) (opened_of p) (lent l d o q) (rw (sym el, sym eo) at en) refl t refl refl (λ h. h) (λ h. lq) (λ z i s h. (spent restoring c s h, refl));
    }

module _ (p : Parts) {n m k : ℕ} (ready : Ready p n m) where
  pub size_too_long : 4096 < k → NotCommanding p n m k HandoffTooLong
  size_too_long f =
      record {
        call = λ restoring c e l o d q el eo lq r t.
            L.refused plain (opened_of p) l d o q (λ x. omega (arith, el, ready.list)) (λ x. omega (arith, eo, ready.outbound)) not_taken (sym ready.checked.is) ready.checked.full
            (omega (arith, eo, ready.outbound)) lq t
            (too_long restoring c (state_of (opened_of p) o q) ready.low (omega (arith, e)));
      }

-- what they refuse
pub turned : (w h b : List ℕ) (t : Float) (l : List ℕ) (o : Bytes) (restoring : Bool) (c : Option Command) {k : ℕ} → k ≡ command_size c → {x : Refusal}
    → Enters w h b (length l) (length o) k (Err x) → {y : LinkAnswer} → y ≡ answer_of (Refused x) 0
    → Driven (parts w h b t) (parts w h b t) y (λ s r. CalledWithOutbound (commands restoring c) s l o r l o)
turned w h b t l o restoring c ek {x} f z =
    refuses (parts w h b t) x z (λ r u d q lq. (f t).call restoring c ek l o d q refl refl lq r u)

-- ---- past them

-- the session in which it is carried out
module _ (w h b : List ℕ) (t : Float) {n m : ℕ} (ready : Ready (parts w h b t) n m) (lh : length h ≡ 772) (restoring : Bool) {h₁ b₁ : List ℕ} (s : Starts restoring h b h₁ b₁) where
  pub commanding_in : Ready (parts w h₁ b₁ t) n m
  commanding_in =
      record {
        checked = still_checked restoring (opened_of (parts w h b t)) (started w h b t ready.checked lh restoring s) ready.checked;
        list = ready.list;
        outbound = ready.outbound;
        low = still_low restoring (opened_of (parts w h b t)) (started w h b t ready.checked lh restoring s) ready.low;
      }

-- what soundness says of it
module _ (w h b : List ℕ) (t : Float) {n : ℕ} (o : Bytes) (ready : Ready (parts w h b t) n (length o)) where
  pub exact_in : ExactOutbox (outbox_in w h b) (length o)
  exact_in = (usable w h b t ready.checked).unacked o ready.outbound

  pub low_in : at h 768 < 4294966000
  unfolding opened_of
  low_in = ready.low

  pub holding_in : flag (at b 775) ≡ true → HoldingIn w h b (length o)
  unfolding opened_of
  holding_in e =
      let g : Holding (opened_of (parts w h b t)) (length o) = holding (opened_of (parts w h b t)) false refl o (sym ready.checked.is) ready.checked.full ready.outbound e in
      record { sound = g.sound; exact = g.exact; long = bytes-long w h b t ready.checked.full; within = omega (arith, g.within, ready.checked.full.handoff); present = e }

-- a step comes to the same for the command that there is
pub by_command : (restoring : Bool) {c d : Option Command} → c ≡ d → {p p' : Parts} {l l' : List ℕ} {o o' : Bytes} {y : LinkAnswer} → ComesIn (commanding restoring d) p p' l o y l' o'
    → ComesIn (commanding restoring c) p p' l o y l' o'
by_command restoring e w = rw e w

pub drives : (w h b : List ℕ) (t : Float) (l : List ℕ) (o : Bytes) (restoring : Bool) (c : Option Command) {k : ℕ} → k ≡ command_size c
    → Ready (parts w h b t) (length l) (length o) × (k ≤ 4096) → length h ≡ 772 → {h₁ b₁ : List ℕ} → Starts restoring h b h₁ b₁ → {p' : Parts} {l' : List ℕ} {o' : Bytes} {y : LinkAnswer}
    → ComesIn (commanding restoring c) (parts w h₁ b₁ t) p' l o y l' o'
    → Driven (parts w h b t) p' y (λ s r. CalledWithOutbound (commands restoring c) s l o r l' o')
drives w h b t l o restoring c ek (ready, few) lh st g =
    record {
      returned = g.returned;
      called =
          carries_out restoring c (opened_of (parts w h b t)) l o ready.list ready.outbound (sym ready.checked.is) ready.checked.full ready.low
          (rw ek at few) (started w h b t ready.checked lh restoring st) refl g.comes;
      leaves = g.leaves;
      answers = g.answers;
      kept = λ z. absurd (true≢false (ready.checked.is ∙ z));
    }
