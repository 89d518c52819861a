-- What calls on messages and acks leave alone: the session afterwards, with the fields that they may change. Assumes nothing.
use Prim.Native.Nat.{ℕ, ◌≤◌}
use mathlib.Core.Path.{◌≡◌, refl, ap}
use mathlib.Core.List.{List}
use native.Mathlib.Omega.{arith}
use lib.Ieee.{Float}
use lib.ListN.{length}
use Rattle.rules.specs.declared.Clock.{Clock}
use Rattle.numbers.specs.declared.Numbers.{Numbers}
use Rattle.outbox.specs.declared.Outbox.{Outbox}
use Rattle.peer_session.specs.declared.TerminalHandoff.{TerminalHandoff}
use Rattle.peer_session.specs.declared.SessionState.{SessionState}
use Rattle.parts.specs.Codes.{stage_of}
use Rattle.parts.specs.Parts.{parts, at, outbox_in, waiting_in, retry_in, clock_in, handoff_in, opened_of}
use Rattle.parts.proofs.Fields.{Agree, agree_within, queue-same, codes_same, policy-same, reject-same}
use Rattle.parts.proofs.Opened.{opened_as}

-- remote, queue, stage, policy and reject body stay
pub record Kept (w h b w' h' b' : List ℕ) : Type 0 where
  pub words : length w' ≡ length w
  pub bytes : length b' ≡ length b
  pub remote : Agree 2 3 w w'
  pub queued : Agree 4 5 w w'
  pub rest : Agree 7 272 w w'
  pub lens : Agree 512 768 h h'
  pub terms : Agree 771 772 h h'
  pub codes : Agree 512 773 b b'
  pub bodies : Agree 776 4936 b b'

-- a session with other messages, acks, clock and handoff
abbrev pub other : SessionState → Outbox → ℕ → Numbers → Numbers → Clock → TerminalHandoff → SessionState
other s o released waiting retry clock k =
    record {
      outbox = o;
      remote = s.remote;
      released = released;
      queue = s.queue;
      waiting = waiting;
      retry = retry;
      clock = clock;
      stage = s.stage;
      handoff = k;
      policy = s.policy;
      reject = s.reject;
    }

module _ (w h b w' h' b' : List ℕ) (t t' : Float) (lb : 4936 ≤ length b) (k : Kept w h b w' h' b') where
  pub after : {o : Outbox} {released : ℕ} {waiting retry : Numbers} {clock : Clock} {m : TerminalHandoff}
      → outbox_in w' h' b' ≡ o → at w' 3 ≡ released → waiting_in w' ≡ waiting → retry_in w' ≡ retry → clock_in h' t' ≡ clock → handoff_in w' b' ≡ m
      → opened_of (parts w' h' b' t') ≡ other (opened_of (parts w h b t)) o released waiting retry clock m
  unfolding opened_of
  after eo er ew et ec em =
      opened_as w' h' b' t' eo (k.remote.same 2 (omega arith) (omega arith)) er
      (queue-same k.queued (agree_within (omega arith) (omega arith) k.rest) k.lens (agree_within (omega arith) (omega arith) k.codes))
      ew et ec (ap stage_of (codes_same k.terms (agree_within (omega arith) (omega arith) k.codes))) em
      (policy-same (agree_within (omega arith) (omega arith) k.rest))
      (reject-same lb k.bytes (agree_within (omega arith) (omega arith) k.rest) (agree_within (omega arith) (omega arith) k.bodies))

-- nothing is changed
pub agree_all : (c d : ℕ) (l : List ℕ) → Agree c d l l
agree_all c d l = record { same = λ i hi hj. refl }
