-- An accept on the parts of a session, by what it leaves of them. Assumes nothing.
use Prim.Native.Nat.{ℕ, ◌≤◌, ◌<◌}
use mathlib.Core.Path.{◌≡◌, refl, sym, ap, subst}
use mathlib.Core.Bool.{true, false}
use mathlib.Core.List.{List}
use native.Mathlib.Omega.{arith}
use lib.Ieee.{Float}
use lib.ListN.{length}
use Rattle.rules.specs.declared.Answer.TheVariants.{Done, Refused}
use Rattle.rules.specs.declared.Refusal.{Refusal}
use Rattle.rules.specs.declared.Refusal.TheVariants.{AlreadyAccepted, ProposalNotFirst}
use Rattle.rules.specs.declared.Setup.TheVariants.{Waiting}
use Rattle.rules.specs.declared.Terms.{Terms}
use Rattle.rules.specs.Lists.{Bytes}
use Rattle.rules.specs.Setup.{is_none}
use Rattle.rules.specs.Calls.{accepts}
use Rattle.rules.specs.Buffers.{taken_by, short, wrong_code, queue_reach}
use Rattle.std.specs.Prelude.{Err}
use Rattle.peer_session.specs.View.{state_of}
use Rattle.peer_session.specs.Sound.{Checked}
use Rattle.session.specs.Promise.{lent, CalledWithOutboundAlone}
use Rattle.session.specs.Entry.{any_length, Enters}
use Rattle.session.proofs.Entries.{stops}
use Rattle.session.proofs.Lengths.{not_taken}
use Rattle.setup.specs.Steps.{staged}
use Rattle.setup.proofs.Lending as L
use Rattle.setup.proofs.Accepts.{accepting, accept_spent, accept-again, accept_plain, accept_late, accept-first, waits}
use Rattle.setup.proofs.Steps.{proposal_stopped, proposed}
use Rattle.parts.specs.declared.LinkAnswer.{LinkAnswer}
use Rattle.parts.specs.Codes.{answer_of, stage_of}
use Rattle.parts.specs.Parts.{Parts, parts, at, codes_in, opened_of}
use Rattle.parts.specs.Driven.{Driven}
use Rattle.parts.proofs.Drives.{changes, refuses}
use Rattle.link_sound.proofs.Lengths.{bytes-long}
use Rattle.link_sound.proofs.Parts.{usable}
use Rattle.link_sending.specs.Sends.{AllocatesIn, Joined}
use Rattle.link_sending.proofs.Sends.{raised}
use Rattle.link_setup.specs.Steps.{Stages, Accepting, NotAccepting, AcceptEnters}
use Rattle.link_setup.proofs.Stages.{is-fresh, not_fresh, restaged, stages_apart, stage-waits}
use Rattle.link_setup.proofs.Joins.{joins, joins_not, joined_waiting}

-- ---- the tests

-- a refusal at its entry
pub stopped_at_entry : {p : Parts} {terms : Terms} {n : ℕ} {x : Refusal} → Enters (opened_of p) any_length any_length n any_length false true (Err x) → NotAccepting p terms n x
unfolding taken_by short wrong_code queue_reach
stopped_at_entry {p} {terms} en =
    record {
      call = λ l o b d q eo lq r t.
          stops (accepts terms b) (opened_of p) (lent l d o q) (rw (sym eo) at en) refl t refl refl (λ h. h) (λ h. lq) (λ e k s h. (accept_spent terms b s h, refl));
    }

module _ (p : Parts) (terms : Terms) {n : ℕ} (ln : 65536 ≤ n) (k : Checked (opened_of p) true) (low : (opened_of p).clock.generation < 4294966000) where
  again : is_none (opened_of p).stage.setup ≡ false → NotAccepting p terms n AlreadyAccepted
  again e =
      record {
        call = λ l o b d q eo lq r t.
            L.refused accepting (opened_of p) l d o q not_taken (λ x. omega (arith, eo)) not_taken (sym k.is) k.full (omega (arith, eo)) lq t
            (accept-again terms b (state_of (opened_of p) o q) low e);
      }

  late : is_none (opened_of p).stage.setup ≡ true → terms.initiator ≡ true → ((opened_of p).outbox.next ≡ 1 → ⊥) → NotAccepting p terms n ProposalNotFirst
  late e i m =
      record {
        call = λ l o b d q eo lq r t.
            L.refused accepting (opened_of p) l d o q not_taken (λ x. omega (arith, eo)) not_taken (sym k.is) k.full (omega (arith, eo)) lq t
            (accept_late terms b (state_of (opened_of p) o q) low e i m);
      }

-- by the numbers of the parts
module _ (w h b : List ℕ) (t : Float) (terms : Terms) {n : ℕ} (ln : 65536 ≤ n) (k : Checked (opened_of (parts w h b t)) true) (low : at h 768 < 4294966000) where
  pub set_up : (at b 769 ≡ 0 → ⊥) → NotAccepting (parts w h b t) terms n AlreadyAccepted
  unfolding opened_of
  set_up e = again (parts w h b t) terms ln k low (not_fresh (codes_in h b) (usable w h b t k).codes e)

  module _ (new : at b 769 ≡ 0) where
    is-new : is_none (stage_of (codes_in h b)).setup ≡ true
    is-new = ap is_none (is-fresh (codes_in h b) (usable w h b t k).codes new)

    pub not_first : terms.initiator ≡ true → (at w 0 ≡ 1 → ⊥) → NotAccepting (parts w h b t) terms n ProposalNotFirst
    unfolding opened_of
    not_first i m = late (parts w h b t) terms ln k low is-new i m

    pub may_accept : (terms.initiator ≡ true → at w 0 ≡ 1) → Accepting (parts w h b t) terms n
    unfolding opened_of
    may_accept f = record { checked = k; outbound = ln; low = low; new = is-new; first = f }

-- what they refuse
pub turned : (w h b : List ℕ) (t : Float) (terms : Terms) (o body : Bytes) {x : Refusal} → AcceptEnters terms w h b (length o) (Err x) → {y : LinkAnswer} → y ≡ answer_of (Refused x) 0
    → Driven (parts w h b t) (parts w h b t) y (λ s r. CalledWithOutboundAlone (accepts terms body) s o r o)
turned w h b t terms o body {x} f z = refuses (parts w h b t) x z (λ r u l d q lq. (f t).call l o body d q refl lq r u)

-- ---- past them

module _ (w h b : List ℕ) (t : Float) (terms : Terms) (o body : Bytes) (ready : Accepting (parts w h b t) terms (length o)) where
  abbrev k : Checked (opened_of (parts w h b t)) true
  k = ready.checked

  -- a proposal is accepted
  pub accepts_it : length h ≡ 772 → terms.initiator ≡ false → {h' b' : List ℕ} → Stages 1 1 terms h b h' b' → {y : LinkAnswer} → y ≡ answer_of Done 0
      → Driven (parts w h b t) (parts w h' b' t) y (λ s r. CalledWithOutboundAlone (accepts terms body) s o r o)
  accepts_it lh e {h'} {b'} s f =
      let lb : 4936 ≤ length b = bytes-long w h b t k.full in
      changes (parts w h b t) (sym k.is) (parts w h' b' t) (staged 1 (Waiting terms) (opened_of (parts w h b t)))
      (restaged w h b h' b' t lb (stages_apart h b lh lb (usable w h b t k).codes s) 1 (Waiting terms) (stage-waits h b lh lb (usable w h b t k).codes s))
      Done 0 f
      (λ l d q lq. waits accepting (opened_of (parts w h b t)) l d o q (λ x. ready.outbound) (sym k.is) k.full ready.outbound lq 1 (Waiting terms) refl (accept_plain terms body (state_of (opened_of (parts w h b t)) o q) ready.low ready.new e))

  module _ (i : terms.initiator ≡ true) where
    -- a proposal is made
    pub proposes : (lh : length h ≡ 772) {w' h' b' : List ℕ} {o' : Bytes} → Joined body w h b o w' h' b' o' → {h'' b'' : List ℕ}
        → Stages 1 1 terms h' b' h'' b'' → {y : LinkAnswer} → y ≡ answer_of Done 0
        → Driven (parts w h b t) (parts w' h'' b'' t) y (λ s r. CalledWithOutboundAlone (accepts terms body) s o r o')
    proposes lh {w'} {b' = b'} j {h''} {b''} r f =
        let a = j.joins in
        let s : Stages 1 1 terms (raised h j.halves) b' h'' b'' = subst (λ (x : List ℕ). Stages 1 1 terms x b' h'' b'') j.raises r in
        changes (parts w h b t) (sym k.is) (parts w' h'' b'' t) _ (joined_waiting w h b t k lh a s) Done 0 f
        (λ l d q lq. L.comes accepting (opened_of (parts w h b t)) l d o q not_taken (sym k.is) k.full ready.outbound lq (proposed terms (joins w h b t k lh a 1) refl) (accept-first terms body (state_of (opened_of (parts w h b t)) o q) ready.low ready.new i (ready.first i)) (λ e. refl))

    -- or it is refused
    pub stopped : {w' h' b' : List ℕ} {o' : Bytes} {x : Refusal} → AllocatesIn body w h b o (Err x) w' h' b' o' → {y : LinkAnswer} → y ≡ answer_of (Refused x) 0
        → Driven (parts w h b t) (parts w' h' b' t) y (λ s r. CalledWithOutboundAlone (accepts terms body) s o r o')
    stopped {o' = o'} {x = x} a {y} f =
        subst (λ (g : Float → Parts). Driven (parts w h b t) (g t) y (λ s r. CalledWithOutboundAlone (accepts terms body) s o r o')) (sym (a.kept x refl))
        (refuses (parts w h b t) x f
        (λ r u l d q lq. L.comes accepting (opened_of (parts w h b t)) l d o q not_taken (sym k.is) k.full ready.outbound lq (proposal_stopped terms (joins_not w h b t k 1 a) u) (accept-first terms body (state_of (opened_of (parts w h b t)) o q) ready.low ready.new i (ready.first i)) (λ z. refl)))
