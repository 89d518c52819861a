-- Data in any mode, driven. Assumes nothing.
use mathlib.Core.Path.{◌≡◌, refl, sym}
use mathlib.Core.Bool.{true}
use mathlib.Core.List.{List}
use Prim.Native.Nat.{ℕ}
use lib.Ieee.{Float}
use lib.ListN.{length}
use Rattle.rules.specs.declared.HostStatus.{HostStatus}
use Rattle.rules.specs.declared.Refusal.{Refusal}
use Rattle.rules.specs.declared.Answer.TheVariants.{Flag, Refused}
use Rattle.rules.specs.Lists.{Bytes}
use Rattle.rules.specs.State.{Frame}
use Rattle.rules.specs.Calls.{gets_data}
use Rattle.peer_session.specs.Sound as Sounds
use Rattle.session.specs.Promise.{lent, Called}
use Rattle.draining.specs.Arrived.{told}
use Rattle.draining.specs.Ends.{Fails}
use Rattle.receiving.specs.declared.Verdict.{Verdict}
use Rattle.receiving.specs.declared.Verdict.TheVariants.{Refuse, Fail, Again, New}
use Rattle.receiving.specs.Checks.{Acknowledges, Acknowledging, Anew}
use Rattle.receiving.proofs.Data.{check_fits, fail_fits, refused_by, failed_by, again-fits, again_by, new-fits, new_by}
use Rattle.parts.specs.declared.LinkAnswer.{LinkAnswer}
use Rattle.parts.specs.Codes.{answer_of}
use Rattle.parts.specs.Parts.{Parts, parts, opened_of}
use Rattle.parts.specs.Driven.{Driven}
use Rattle.parts.proofs.Drives.{refuses, changes}
use Rattle.link_numbers.specs.Sets.{Rising}
use Rattle.link_sound.proofs.Parts.{usable}
use Rattle.link_draining.specs.declared.Ending.{Ending}
use Rattle.link_draining.specs.Endings.{ended_of}
use Rattle.link_draining.specs.Steps.{Failing}
use Rattle.link_checks.specs.Checks.{Countable, Judged}
use Rattle.link_arrivals.specs.Steps.{Receiving}
use Rattle.link_receiving.specs.Steps.{Arriving}

module _ (status : HostStatus) (f : Frame) (w h b : List ℕ) (t : Float) (l : List ℕ) (d o q : Bytes) (pre : Arriving f w h b t l d o q) where
  abbrev p : Parts
  p = parts w h b t

  checked : Sounds.Checked (opened_of p) true
  checked = record { is = sym pre.arrived.good; full = pre.arrived.full }

  pub countable : Countable w
  unfolding opened_of
  countable = record { waits = (check_fits pre.arrived).0; few = (check_fits pre.arrived).1 }

  pub may_fail : Failing w h b 0 (length l) (length q)
  unfolding opened_of
  may_fail = record { queued = (fail_fits pre.arrived).0; room = (fail_fits pre.arrived).1; codes = (usable w h b t checked).codes }

  module _ {v : Verdict} (j : Judged f.number (length f.body) w v) where
    pub refused : (x : Refusal) → v ≡ Refuse x → {y : LinkAnswer} → y ≡ answer_of (Refused x) 0
        → Driven p p y (λ s r. Called (gets_data status f) s (lent l d o q) r (lent l d o q))
    refused x e a = refuses p x a (λ r tu. refused_by status f (opened_of p) l d o q pre.arrived pre.kind (j h b t) e tu)

    pub may_acknowledge : v ≡ Again → Acknowledging f.number (opened_of p) (length l) × Rising 272 5 w
    may_acknowledge e = (again-fits status f (opened_of p) l d o q pre.arrived pre.kind (j h b t) e, (usable w h b t checked).waiting)

    pub may_receive : v ≡ New → Receiving f w h b t l d o q
    may_receive e = record { checked = checked; receiving = new-fits status f (opened_of p) l d o q pre.arrived pre.kind (j h b t) e }

    module _ (p' : Parts) {r : Ending} {y : LinkAnswer} (a : y ≡ answer_of (told (Flag true) r.stop) r.events) where
      pub failed : (x : Refusal) → v ≡ Fail x → {l' : List ℕ} {q' : Bytes} → Fails x (opened_of p) l 0 q (ended_of (opened_of p') r) l' q'
          → Driven p p' y (λ s z. Called (gets_data status f) s (lent l d o q) z (lent l' d o q'))
      failed x e c =
          changes p pre.arrived.good p' (opened_of p') refl (told (Flag true) r.stop) r.events a
          (failed_by status f (opened_of p) l d o q pre.arrived pre.kind (j h b t) e c refl)

      pub acknowledged : v ≡ Again → {l' : List ℕ} → Acknowledges f.number (opened_of p) l (ended_of (opened_of p') r) l'
          → Driven p p' y (λ s z. Called (gets_data status f) s (lent l d o q) z (lent l' d o q))
      acknowledged e c =
          changes p pre.arrived.good p' (opened_of p') refl (told (Flag true) r.stop) r.events a
          (again_by status f (opened_of p) l d o q pre.arrived pre.kind (j h b t) e c refl)

      pub received : v ≡ New → {l' : List ℕ} {d' o' q' : Bytes} → Anew status f (opened_of p) l d o q (ended_of (opened_of p') r) l' d' o' q'
          → Driven p p' y (λ s z. Called (gets_data status f) s (lent l d o q) z (lent l' d' o' q'))
      received e c =
          changes p pre.arrived.good p' (opened_of p') refl (told (Flag true) r.stop) r.events a
          (new_by status f (opened_of p) l d o q pre.arrived pre.kind (j h b t) e c refl)
