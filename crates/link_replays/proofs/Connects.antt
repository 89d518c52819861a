-- A connectivity event on the parts of a session, answer by answer. Assumes nothing.
use Prim.Native.Nat.{ℕ, ◌+◌, ◌*◌, ◌≤◌}
use mathlib.Core.Path.{◌≡◌, refl}
use Rattle.rules.specs.declared.Connectivity.{Connectivity}
use Rattle.rules.specs.declared.Connectivity.TheVariants.{Disconnected, Reconnected, PeerUnavailable, Registered, PeerAvailable}
use Rattle.rules.specs.Codes.{connectivity_number}
use mathlib.Core.Bool.{Bool, true, false, not, ◌&&◌}
use mathlib.Core.List.{List}
use native.Mathlib.Omega.{arith}
use lib.Ieee.{Float}
use lib.ListN.{length}
use lib.Dec.{leb}
use Rattle.std.proofs.lemmas.Bool.{leb-true}
use Rattle.rules.specs.declared.Answer.TheVariants.{Flag}
use Rattle.rules.specs.Clock.{held_back}
use Rattle.rules.specs.Calls.{connects}
use Rattle.outbox.specs.Sound.{sound_outbox_of}
use Rattle.outbox.specs.Steps.{Replays}
use Rattle.outbox.proofs.View.{SoundU, sound_facts}
use Rattle.peer_session.proofs.View as View
use Rattle.session.specs.Promise.{CalledWithList}
use Rattle.session.specs.Entry.{Admitted}
use Rattle.replays.proofs.Connects as C
use Rattle.parts.specs.declared.LinkAnswer.{LinkAnswer}
use Rattle.parts.specs.Codes.{answer_of}
use Rattle.parts.specs.Parts.{Parts, parts, at, outbox_in, opened_of}
use Rattle.parts.specs.Driven.{Driven}
use Rattle.parts.proofs.Drives.{leaves, changes}
use Rattle.link_replays.specs.Connects.{Ready}

last : (event : Connectivity) → connectivity_number event ≤ 5
last Disconnected = omega arith
last Reconnected = omega arith
last PeerUnavailable = omega arith
last Registered = omega arith
last PeerAvailable = omega arith

pub ready_for : {p : Parts} {n d o q : ℕ} {wrong : Bool} → Admitted (opened_of p) n d o q wrong false → Ready p n
ready_for a = record { sound = a.sound; full = a.full; list = a.list }

-- ---- past the tests

module _ (w h b : List ℕ) (t : Float) (l : List ℕ) (event : Connectivity) (time : Float) (f : Bool) (ready : Ready (parts w h b t) (length l)) where
  abbrev e : ℕ
  e = connectivity_number event

  pub noted : leb 4 e ≡ false → {y : LinkAnswer} → y ≡ answer_of (Flag true) 0 → Driven (parts w h b t) (parts w h b t) y (λ s r. CalledWithList (connects e time f) s l r l)
  noted k a =
      let n = C.up_to_three event k in
      leaves (parts w h b t) (Flag true) 0 a (C.quiet e time f (opened_of (parts w h b t)) l ready.list ready.sound ready.full n.0 n.1)

  -- there is room for every message
  pub may_replay : (sound_outbox_of (outbox_in w h b) ≡ true) × (4 * (0 + at w 1) ≤ length l)
  unfolding opened_of
  may_replay =
      let s : sound_outbox_of (outbox_in w h b) ≡ true = (View.parts (opened_of (parts w h b t)) ready.sound ready.full).outbox in
      let f : SoundU (outbox_in w h b) = sound_facts (outbox_in w h b) s in
      (s, omega (arith, f.few, ready.list))

  module _ (resends : leb 4 e ≡ true) where
    late : 4 ≤ e
    late = leb-true 4 e resends

    pub nothing-unacked : at w 1 ≡ 0 → {y : LinkAnswer} → y ≡ answer_of (Flag true) 0
        → Driven (parts w h b t) (parts w h b t) y (λ s r. CalledWithList (connects e time f) s l r l)
    unfolding opened_of
    nothing-unacked z a =
        leaves (parts w h b t) (Flag true) 0 a
        (C.nothing-unacked e time f (opened_of (parts w h b t)) l ready.list ready.sound ready.full late (last event) z)

    module _ (some : at w 1 ≡ 0 → ⊥) where
      pub kept_back : (not f && held_back time t) ≡ true → {y : LinkAnswer} → y ≡ answer_of (Flag false) 0
          → Driven (parts w h b t) (parts w h b t) y (λ s r. CalledWithList (connects e time f) s l r l)
      unfolding opened_of
      kept_back k a =
          leaves (parts w h b t) (Flag false) 0 a
          (C.kept_back e time f (opened_of (parts w h b t)) l ready.list ready.sound ready.full late (last event) some k)

      -- only the time moves
      pub replayed : (not f && held_back time t) ≡ false → (l' : List ℕ) (n : ℕ) → Replays (outbox_in w h b) l 0 l' n → {y : LinkAnswer} → y ≡ answer_of (Flag true) n
          → Driven (parts w h b t) (parts w h b time) y (λ s r. CalledWithList (connects e time f) s l r l')
      unfolding opened_of
      replayed k l' n r a =
          changes (parts w h b t) ready.sound (parts w h b time) (opened_of (parts w h b time)) refl (Flag true) n a
          (C.replays e time f (opened_of (parts w h b t)) l ready.list ready.sound ready.full late (last event) some k l' n r)
