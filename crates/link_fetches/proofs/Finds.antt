-- A fetch on the parts of a session, answer by answer. Assumes nothing.
use Rattle.std.specs.Prelude.{Option}
use Prim.Native.Nat.{ℕ, ◌≤◌}
use mathlib.Core.Path.{◌≡◌, refl}
use mathlib.Core.Bool.{true}
use mathlib.Core.List.{List}
use lib.Ieee.{Float}
use lib.ListN.{length}
use Rattle.rules.specs.Lists.{Bytes}
use Rattle.rules.specs.Calls.{fetches}
use Rattle.outbox.specs.declared.Place.{Place}
use Rattle.outbox.specs.View.{used_u}
use Rattle.outbox.specs.Records as Records
use Rattle.outbox.specs.Records.{place_u}
use Rattle.peer_session.specs.Sound.{sound_of, Full}
use Rattle.peer_session.proofs.View as View
use Rattle.link_outbox.specs.Tests.{Bounded}
use Rattle.link_outbox.proofs.Sounds.{bounded_sound}
use Rattle.fetches.specs.Fetched.{AnsweredWithOutbound}
use Rattle.fetches.proofs.Finds as F
use Rattle.parts.specs.declared.LinkAnswer.{LinkAnswer}
use Rattle.parts.specs.Codes.{answer_of}
use Rattle.parts.specs.Parts.{parts, at, outbox_in, opened_of}
use Rattle.parts.specs.Driven.{DrivenAnswer}
use Rattle.parts.proofs.Drives.{answers}

pub may_locate : (w h b : List ℕ) (t : Float) → sound_of (opened_of (parts w h b t)) ≡ true → Full (opened_of (parts w h b t)) → Bounded h (at w 1)
unfolding opened_of
may_locate w h b t s full = bounded_sound w h b (View.parts (opened_of (parts w h b t)) s full).outbox

module _ (w h b : List ℕ) (t : Float) (o : Bytes) (number : ℕ) (lo : 65536 ≤ length o) where
  pub find_sound : sound_of (opened_of (parts w h b t)) ≡ true → Full (opened_of (parts w h b t)) → (p : Option Place) → p ≡ place_u number 0 (used_u (outbox_in w h b))
      → {y : LinkAnswer} → y ≡ answer_of (Records.answer_of p) 0 → DrivenAnswer (parts w h b t) y (λ s a. AnsweredWithOutbound (fetches number) s o a)
  unfolding opened_of
  find_sound k full p is e =
      answers (parts w h b t) (Records.answer_of p) e (F.find_sound number (opened_of (parts w h b t)) o lo k full {p = p} is refl)
