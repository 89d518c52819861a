-- The session that the parts are, field by field. Assumes nothing.
use Prim.Native.Nat.{ℕ}
use mathlib.Core.Path.{◌≡◌, refl, ◌∙◌}
use mathlib.Core.List.{List}
use lib.Ieee.{Float}
use Rattle.rules.specs.declared.Clock.{Clock}
use Rattle.rules.specs.declared.Policy.{Policy}
use Rattle.numbers.specs.declared.Numbers.{Numbers}
use Rattle.outbox.specs.declared.Outbox.{Outbox}
use Rattle.queue.specs.declared.Queue.{Queue}
use Rattle.peer_session.specs.declared.Stage.{Stage}
use Rattle.peer_session.specs.declared.TerminalHandoff.{TerminalHandoff}
use Rattle.peer_session.specs.declared.RejectBody.{RejectBody}
use Rattle.peer_session.specs.declared.SessionState.{SessionState}
use Rattle.parts.specs.Codes.{stage_of}
use Rattle.parts.specs.Parts.{parts, at, outbox_in, queue_in, waiting_in, retry_in, clock_in, codes_in, handoff_in, policy_in, reject_in, opened_of}

-- the session with these fields
abbrev pub made : Outbox → ℕ → ℕ → Queue → Numbers → Numbers → Clock → Stage → TerminalHandoff → Policy → RejectBody → SessionState
made o remote released q waiting retry clock g k p j =
    record { outbox = o; remote = remote; released = released; queue = q; waiting = waiting; retry = retry; clock = clock; stage = g; handoff = k; policy = p; reject = j }

module _ (w h b : List ℕ) (t : Float) where
  pub opened : opened_of (parts w h b t)
      ≡ made (outbox_in w h b) (at w 2) (at w 3) (queue_in w h b) (waiting_in w) (retry_in w) (clock_in h t) (stage_of (codes_in h b)) (handoff_in w b) (policy_in w) (reject_in w b)
  unfolding opened_of
  opened = refl

  -- its fields, each with what it is known to be
  pub opened_as : {o : Outbox} {remote released : ℕ} {q : Queue} {waiting retry : Numbers} {clock : Clock} {g : Stage} {k : TerminalHandoff} {p : Policy} {j : RejectBody}
      → outbox_in w h b ≡ o → at w 2 ≡ remote → at w 3 ≡ released → queue_in w h b ≡ q → waiting_in w ≡ waiting → retry_in w ≡ retry → clock_in h t ≡ clock
      → stage_of (codes_in h b) ≡ g → handoff_in w b ≡ k → policy_in w ≡ p → reject_in w b ≡ j
      → opened_of (parts w h b t) ≡ made o remote released q waiting retry clock g k p j
  opened_as eo er el eq ew et ec eg ek ep ej = opened ∙ cc
