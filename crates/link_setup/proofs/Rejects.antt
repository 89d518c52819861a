-- A reject on the parts of a session, by what it leaves of them. Assumes nothing.
use Prim.Native.Nat.{ℕ, ◌≤◌}
use mathlib.Core.Path.{◌≡◌, refl, sym, subst}
use mathlib.Core.Bool.{true, false}
use mathlib.Core.List.{List}
use lib.Ieee.{Float}
use lib.ListN.{length, set, take}
use Rattle.rules.specs.declared.Answer.TheVariants.{Done, Refused}
use Rattle.rules.specs.declared.Clock.{Clock}
use Rattle.rules.specs.declared.Refusal.{Refusal}
use Rattle.rules.specs.Lists.{Bytes}
use Rattle.rules.specs.Calls.{rejects}
use Rattle.std.specs.Prelude.{Ok, Err}
use Rattle.events.specs.Written.{Listed, asked}
use Rattle.peer_session.specs.declared.RejectBody.{RejectBody}
use Rattle.peer_session.specs.View.{state_of}
use Rattle.peer_session.specs.Sound.{Checked}
use Rattle.session.specs.Promise.{CalledWithOutbound}
use Rattle.session.proofs.Lengths.{not_taken}
use Rattle.setup.proofs.Lending as L
use Rattle.setup.proofs.Accepts.{rejects_plain, reject-goes, reject-within}
use Rattle.setup.proofs.Steps.{rejection_stopped, rejected}
use Rattle.parts.specs.declared.LinkAnswer.{LinkAnswer}
use Rattle.parts.specs.Codes.{answer_of}
use Rattle.parts.specs.Parts.{Parts, parts, at, clock_in, reject_in, opened_of}
use Rattle.parts.specs.Driven.{Driven}
use Rattle.parts.proofs.Drives.{changes, refuses}
use Rattle.link_sound.proofs.Lengths.{words-long, bytes-long}
use Rattle.link_sending.specs.Sends.{Ready, AllocatesIn, Joined}
use Rattle.link_sending.proofs.Sends.{raised, clock-raised}
use Rattle.link_setup.specs.Steps.{AsksIn}
use Rattle.link_setup.proofs.Joins.{joins, joins_not, joined_under}

-- the reject body lies within its array
pub body-within : (w h b : List ℕ) (t : Float) {n : ℕ} (o : Bytes) → Ready (parts w h b t) n (length o) → (j : RejectBody) → j ≡ reject_in w b → j.len ≤ length j.bytes
unfolding opened_of
body-within w h b t o ready j e =
    rw e (reject-within (opened_of (parts w h b t)) o (sym ready.checked.is) ready.checked.full ready.outbound)

-- done, by the clock that a request goes by
pub is-asked : {c k : Clock} {l l' : List ℕ} {n : ℕ} {y : LinkAnswer} → k ≡ c → Listed (asked k) l 0 l' n → y ≡ answer_of Done n → AsksIn c l y l'
is-asked {l = l} {l' = l'} {n = n} e li f =
    record { events = n; listed = subst (λ (x : Clock). Listed (asked x) l 0 l' n) e li; answers = f }

module _ (w h b : List ℕ) (t : Float) (l : List ℕ) (o : Bytes) (ready : Ready (parts w h b t) (length l) (length o)) where
  abbrev k : Checked (opened_of (parts w h b t)) true
  k = ready.checked

  abbrev body : Bytes
  body = take (at w 14) (reject_in w b).bytes

  is-taken : {A : Type 0} → true ≡ false → A
  is-taken e = not_taken (sym e)

  rejects_it : (lh : length h ≡ 772) {w' h' b' : List ℕ} {o' : Bytes} → AllocatesIn body w h b o (Ok tt) w' h' b' o' → {l' : List ℕ} {n : ℕ}
      → Listed (asked (clock_in (raised h h') t)) l 0 l' n → {y : LinkAnswer} → y ≡ answer_of Done n
      → Driven (parts w h b t) (parts w' (raised h h') (set b' 768 4) t) y (λ s r. CalledWithOutbound rejects s l o r l' o')
  unfolding opened_of
  rejects_it lh {w'} {h'} {b'} {o'} a {l'} {n} li f =
      let lw : 1296 ≤ length w = words-long w h b t k.full in
      let lb : 4936 ≤ length b = bytes-long w h b t k.full in
      changes (parts w h b t) (sym k.is) (parts w' (raised h h') (set b' 768 4) t) _ (joined_under w h b t k lh a 4) Done n f
      (λ d q lq. L.comes rejects_plain (opened_of (parts w h b t)) l d o q (λ x. ready.list) (sym k.is) k.full ready.outbound lq (rejected (joins w h b t k lh a 4) (record { is = refl; listed = subst (λ (c : Clock). Listed (asked c) l 0 l' n) (clock-raised w h b t lw lb lh a) li })) (reject-goes (state_of (opened_of (parts w h b t)) o q) ready.low) is-taken)

  module _ {j : RejectBody} (ej : j ≡ reject_in w b) where
    pub went : (lh : length h ≡ 772) {w' h' b' : List ℕ} {o' : Bytes} → Joined (take j.len j.bytes) w h b o w' h' b' o'
        → {l' : List ℕ} {y : LinkAnswer} → AsksIn (clock_in h' t) l y l'
        → Driven (parts w h b t) (parts w' h' (set b' 768 4) t) y (λ s r. CalledWithOutbound rejects s l o r l' o')
    went lh {w'} {h'} {b'} {o'} g {l'} {y} k =
        let a : AsksIn (clock_in (raised h g.halves) t) l y l' = subst (λ (x : List ℕ). AsksIn (clock_in x t) l y l') g.raises k in
        subst (λ (x : List ℕ). Driven (parts w h b t) (parts w' x (set b' 768 4) t) y (λ s r. CalledWithOutbound rejects s l o r l' o')) (sym g.raises)
        (rejects_it lh (subst (λ (x : RejectBody). AllocatesIn (take x.len x.bytes) w h b o (Ok tt) w' g.halves b' o') ej g.joins) a.listed a.answers)

    pub stopped : {w' h' b' : List ℕ} {o' : Bytes} {x : Refusal} → AllocatesIn (take j.len j.bytes) w h b o (Err x) w' h' b' o' → {y : LinkAnswer} → y ≡ answer_of (Refused x) 0
        → Driven (parts w h b t) (parts w' h' b' t) y (λ s r. CalledWithOutbound rejects s l o r l o')
    unfolding opened_of
    stopped {w'} {h'} {b'} {o'} {x} a {y} f =
        let a' : AllocatesIn body w h b o (Err x) w' h' b' o' = subst (λ (z : RejectBody). AllocatesIn (take z.len z.bytes) w h b o (Err x) w' h' b' o') ej a in
        subst (λ (g : Float → Parts). Driven (parts w h b t) (g t) y (λ s r. CalledWithOutbound rejects s l o r l o')) (sym (a.kept x refl))
        (refuses (parts w h b t) x f
        (λ r u d q lq. L.comes rejects_plain (opened_of (parts w h b t)) l d o q (λ z. ready.list) (sym k.is) k.full ready.outbound lq (rejection_stopped (joins_not w h b t k 4 a') u) (reject-goes (state_of (opened_of (parts w h b t)) o q) ready.low) (λ z. refl)))
