-- A command that meets a handoff, on the parts of a session. Assumes nothing.
use Rattle.std.specs.Prelude.{Option, Some, None}
use Prim.Native.Nat.{ℕ}
use mathlib.Core.Path.{◌≡◌, sym, ap, ◌∙◌}
use mathlib.Core.Bool.{Bool, true, false}
use mathlib.Core.List.{List}
use mathlib.Core.Option.{some}
use native.Mathlib.Omega.{arith}
use lib.Dec.{leb}
use lib.Ieee.{Float}
use lib.ListN.{length, take, drop}
use Rattle.rules.specs.declared.Answer.TheVariants.{Refused}
use Rattle.rules.specs.declared.Refusal.TheVariants.{HandoffPending, CommandDiffers, HandoffInconsistent, HandoffNotHeld}
use Rattle.rules.specs.Lists.{Bytes, any, same}
use Rattle.rules.specs.Handoff.{Command, numbered_to}
use Rattle.outbox.specs.declared.Unacked.{Unacked}
use Rattle.outbox.specs.declared.Place.{Place}
use Rattle.outbox.specs.View.{blank_u, used_u, unacked_of}
use Rattle.outbox.specs.Records.{place_u}
use Rattle.outbox.specs.Sound.{sound_outbox_of}
use Rattle.handoffs.specs.Commands.{commanding, carries_body, Holding, validating}
use Rattle.handoffs.proofs.Unacked.{to_none, to_some, carries_here, carries-none}
use Rattle.handoffs.proofs.Validates as Plain
use Rattle.parts.specs.declared.LinkAnswer.{LinkAnswer}
use Rattle.parts.specs.Codes.{answer_of}
use Rattle.parts.specs.Parts.{Parts, parts, at, flag, section, unacked_at, outbox_in, clock_in, opened_of}
use Rattle.parts.proofs.Seats.{length-seats, get_d_seats}
use Rattle.parts.proofs.Fields.{length-section}
use Rattle.link_restores.proofs.Handoffs.{flag-there, flag_gone}
use Rattle.link_setup.specs.Steps.{AsksIn}
use Rattle.link_handoffs.specs.Commands.{ComesIn, HoldingIn}
use Rattle.link_handoffs.proofs.Steps.{refuses_in, asks_in, clocked}

-- ---- what is asked of the unacked messages

module _ (w h b : List ℕ) (s : Bytes) (number : ℕ) where
  pub none-unacked : at w 1 ≡ 0 → false ≡ any (numbered_to number) (unacked_of (outbox_in w h b) s)
  none-unacked e = to_none number (outbox_in w h b) s e

  pub first-unacked : (at w 1 ≡ 0 → ⊥) → sound_outbox_of (outbox_in w h b) ≡ true → {x : ℕ} → x ≡ at h 0 → leb x number ≡ any (numbered_to number) (unacked_of (outbox_in w h b) s)
  first-unacked n sound {x} e =
      ap (λ (i : ℕ). leb i number) (e ∙ sym (ap (λ (u : Unacked). u.number) (get_d_seats 256 (unacked_at h b) 0 blank_u (omega arith))))
      ∙ to_some number (outbox_in w h b) s sound (length-seats 256 (unacked_at h b)) n

module _ (w h b : List ℕ) (o : Bytes) (k : HoldingIn w h b (length o)) {p : Option Place} (is : (x : List ℕ) → p ≡ place_u (at w 9) 0 (used_u (outbox_in w h x)))
    {held : Bytes} (e : held ≡ take (at w 7) (section 776 4096 b)) where
  abbrev body : Bytes
  body = take (at w 7) (section 776 4096 b)

  pub carried_here : (q : Place) → p ≡ Some q → {m : Bytes} {r : Bool} → m ≡ take q.len (drop q.start o) → r ≡ same m held → r ≡ any (carries_body (at w 9) body) (unacked_of (outbox_in w h b) o)
  carried_here q f {m} em er =
      er ∙ ap (λ (z : Bytes). same z held) em ∙ ap (λ (z : Bytes). same (take q.len (drop q.start o)) z) e
      ∙ carries_here (at w 9) (outbox_in w h b) o k.sound (is b) body q f

  pub carried-none : p ≡ None → false ≡ any (carries_body (at w 9) body) (unacked_of (outbox_in w h b) o)
  carried-none f = carries-none (at w 9) (outbox_in w h b) o k.sound (is b) body f

-- ---- the handoff that is there

module _ (w h b : List ℕ) (t : Float) (l : List ℕ) (o : Bytes) (k : HoldingIn w h b (length o)) where
  abbrev p : Parts
  p = parts w h b t

  holds : Holding (opened_of p) (length o)
  unfolding opened_of
  holds = record { sound = k.sound; exact = k.exact; within = omega (arith, k.within, length-section 776 4096 b (omega (arith, k.long))); present = k.present }

  acknowledged-is : (x : Bool) → flag (at b 774) ≡ x → (opened_of p).handoff.acknowledged ≡ x
  unfolding opened_of
  acknowledged-is x e = e

  sent_is : (x : Bool) → flag (at b 773) ≡ x → (opened_of p).handoff.sent ≡ x
  unfolding opened_of
  sent_is x e = e

  pub unsent : (at b 774 ≡ 0 → ⊥) → at b 773 ≡ 0 → {y : LinkAnswer} → y ≡ answer_of (Refused HandoffInconsistent) 0 → ComesIn validating p p l o y l o
  unsent a n f =
      refuses_in p l o HandoffInconsistent f
      (λ r u. Plain.unsent (opened_of p) l o holds (acknowledged-is true (flag-there (at b 774) a)) (sent_is false (flag_gone (at b 773) n)) u)

  module _ {x : Bool} (is : (b : List ℕ) (s : Bytes) → sound_outbox_of (outbox_in w h b) ≡ true → x ≡ any (numbered_to (at w 9)) (unacked_of (outbox_in w h b) s)) (a : at b 774 ≡ 0 → ⊥)
      (n : at b 773 ≡ 0 → ⊥) where
    told : (z : Bytes) → x ≡ any (numbered_to (opened_of p).handoff.number) (unacked_of (opened_of p).outbox z)
    unfolding opened_of
    told z = is b z k.sound

    pub still_unacked : x ≡ true → {y : LinkAnswer} → y ≡ answer_of (Refused HandoffInconsistent) 0 → ComesIn validating p p l o y l o
    still_unacked e f =
        refuses_in p l o HandoffInconsistent f
        (λ r u. Plain.still_unacked (opened_of p) l o holds told (acknowledged-is true (flag-there (at b 774) a)) (sent_is true (flag-there (at b 773) n)) e u)

    pub acked : x ≡ false → {y : LinkAnswer} {l' : List ℕ} → AsksIn (clock_in h t) l y l' → ComesIn validating p p l o y l' o
    acked e q =
        asks_in p l o (clocked w h b t q)
        (λ r u. Plain.acked (opened_of p) l o holds told (acknowledged-is true (flag-there (at b 774) a)) (sent_is true (flag-there (at b 773) n)) e u)

  module _ {x : Bool} (is : x ≡ any (carries_body (at w 9) (take (at w 7) (section 776 4096 b))) (unacked_of (outbox_in w h b) o)) (a : at b 774 ≡ 0) where
    tells : x ≡ any (carries_body (opened_of p).handoff.number (take (opened_of p).handoff.len (opened_of p).handoff.body)) (unacked_of (opened_of p).outbox o)
    unfolding opened_of
    tells = is

    pub not_carried : x ≡ false → {y : LinkAnswer} → y ≡ answer_of (Refused HandoffNotHeld) 0 → ComesIn validating p p l o y l o
    not_carried e f =
        refuses_in p l o HandoffNotHeld f (λ r u. Plain.not_carried (opened_of p) l o holds tells (acknowledged-is false (flag_gone (at b 774) a)) e u)

    pub carried : x ≡ true → {y : LinkAnswer} {l' : List ℕ} → AsksIn (clock_in h t) l y l' → ComesIn validating p p l o y l' o
    carried e q =
        asks_in p l o (clocked w h b t q) (λ r u. Plain.carried (opened_of p) l o holds tells (acknowledged-is false (flag_gone (at b 774) a)) e u)

  -- ---- the command

  module _ (id : ℕ) (body : Bytes) (restoring : Bool) where
    abbrev c : Command
    c = record { id = id; body = body }

    pub not_restoring : restoring ≡ false → {y : LinkAnswer} → y ≡ answer_of (Refused HandoffPending) 0 → ComesIn (commanding restoring (some c)) p p l o y l o
    not_restoring e f = refuses_in p l o HandoffPending f (λ r u. Plain.not_restoring (opened_of p) l o holds c restoring e u)

    module _ (e : restoring ≡ true) where
      other : (at w 8 ≡ id → ⊥) → (opened_of p).handoff.id ≡ id → ⊥
      unfolding opened_of
      other n = n

      pub id-differs : (at w 8 ≡ id → ⊥) → {y : LinkAnswer} → y ≡ answer_of (Refused CommandDiffers) 0 → ComesIn (commanding restoring (some c)) p p l o y l o
      id-differs n f = refuses_in p l o CommandDiffers f (λ r u. Plain.id-differs (opened_of p) l o holds c restoring e (other n) u)

      module _ (i : at w 8 ≡ id) {x : Bool} (is : x ≡ same (take (at w 7) (section 776 4096 b)) body) where
        its_id : (opened_of p).handoff.id ≡ id
        unfolding opened_of
        its_id = i

        compared : (z : Bool) → x ≡ z → same (take (opened_of p).handoff.len (opened_of p).handoff.body) body ≡ z
        unfolding opened_of
        compared z f = sym is ∙ f

        pub body-differs : x ≡ false → {y : LinkAnswer} → y ≡ answer_of (Refused CommandDiffers) 0 → ComesIn (commanding restoring (some c)) p p l o y l o
        body-differs n f = refuses_in p l o CommandDiffers f (λ r u. Plain.body-differs (opened_of p) l o holds c restoring e its_id (compared false n) u)

        pub own-handoff : x ≡ true → {y : LinkAnswer} {l' : List ℕ} → ComesIn validating p p l o y l' o → ComesIn (commanding restoring (some c)) p p l o y l' o
        own-handoff n v =
            record {
              returned = v.returned;
              comes = Plain.own-handoff (opened_of p) l o holds c restoring e its_id (compared true n) v.comes;
              leaves = v.leaves;
              answers = v.answers;
            }
