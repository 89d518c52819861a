-- Consumer ready, driven. Assumes nothing.
use mathlib.Core.Path.{◌≡◌, refl, sym}
use mathlib.Core.Bool.{true}
use mathlib.Core.List.{List}
use Prim.Native.Nat.{ℕ, ◌≤◌}
use lib.Ieee.{Float}
use lib.ListN.{length, set}
use Rattle.rules.specs.declared.HostStatus.{HostStatus}
use Rattle.rules.specs.declared.Answer.TheVariants.{Done}
use Rattle.rules.specs.Lists.{Bytes}
use Rattle.rules.specs.Calls.{is_ready}
use Rattle.peer_session.specs.declared.SessionState.{SessionState}
use Rattle.session.specs.Promise.{lent, Called}
use Rattle.delivery.specs.declared.Turn.{Turn}
use Rattle.draining.specs.Turns.{turn_of}
use Rattle.draining.specs.Ends.{Carrying, Carries}
use Rattle.consumers.proofs.Consumers.{ready_carrying, ready_done}
use Rattle.parts.specs.declared.LinkAnswer.{LinkAnswer}
use Rattle.parts.specs.Codes.{good_codes, handed}
use Rattle.parts.specs.Parts.{Parts, parts, waiting_in, codes_in, opened_of}
use Rattle.parts.specs.Driven.{Driven}
use Rattle.parts.proofs.Drives.{changes}
use Rattle.link_sound.proofs.Parts.{usable}
use Rattle.link_draining.specs.declared.Ending.{Ending}
use Rattle.link_draining.specs.Endings.{ended_of}
use Rattle.link_consumers.specs.Modes.{Readying}
use Rattle.link_consumers.proofs.Modes.{good-after, with_its_mode}

-- ---- past the tests

module _ (status : HostStatus) (mode : ℕ) (w h b : List ℕ) (t : Float) {l : List ℕ} {d o q : Bytes} (pre : Readying mode w h b t l d o q) (lb : 4936 ≤ length b) where
  abbrev p : Parts
  p = parts w h b t

  abbrev T : SessionState
  T = opened_of (parts w h (set b 771 mode) t)

  good : good_codes (codes_in h b) ≡ true
  good = (usable w h b t (record { is = sym pre.arrived.good; full = pre.arrived.full })).codes

  pub codes : good_codes (codes_in h (set b 771 mode)) ≡ true
  codes = good-after w h b t mode lb pre.known good

  module _ {u : Turn} (e : u ≡ turn_of T) where
    pub carrying : Carrying u (waiting_in w) 0 T l 0 d 0 o q × (good_codes (codes_in h (set b 771 mode)) ≡ true)
    unfolding opened_of
    carrying = (ready_carrying status mode (opened_of p) l d o q pre.arrived pre.known refl (with_its_mode w h b t mode lb pre.known good) e, codes)

    pub done : (p' : Parts) {r : Ending} {y : LinkAnswer} → y ≡ handed 0 0 0 0 0 r.events → {l' : List ℕ} {d' o' q' : Bytes}
        → Carries status u (waiting_in w) 0 T l 0 d 0 o q (ended_of (opened_of p') r) l' d' o' q'
        → Driven p p' y (λ s z. Called (is_ready status mode) s (lent l d o q) z (lent l' d' o' q'))
    unfolding opened_of
    done p' {r} a c =
        changes p pre.arrived.good p' (opened_of p') refl Done r.events a
        (ready_done status mode (opened_of p) l d o q pre.arrived pre.known refl (with_its_mode w h b t mode lb pre.known good) e c)
