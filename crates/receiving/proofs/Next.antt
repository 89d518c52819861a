-- Data that is no duplicate: whether it is delivered now. Assumes nothing.
use mathlib.Core.Path.{◌≡◌, sym, ◌∙◌, subst}
use mathlib.Core.Bool.{Bool}
use mathlib.Core.List.{List}
use Prim.Native.Nat.{ℕ}
use Rattle.rules.specs.declared.HostStatus.{HostStatus}
use Rattle.rules.specs.Lists.{Bytes}
use Rattle.rules.specs.State.{Frame}
use Rattle.numbers.specs.Seats.{in_use}
use Rattle.queue.specs.View.{frames_of}
use Rattle.peer_session.specs.declared.SessionState.{SessionState}
use Rattle.peer_session.specs.View.{state_of}
use Rattle.delivery.specs.declared.Turn.{Turn}
use Rattle.draining.specs.Turns.{turn_of}
use Rattle.receiving.specs.Checks.{Receiving, Taking, Delivers}
use Rattle.draining.proofs.Settled.{begins}

pub taking : (now : Bool) (status : HostStatus) {f : Frame} {s : SessionState} {l : List ℕ} {d o q : Bytes} → Receiving f s l d o q → {t : Turn} → t ≡ turn_of s → {r : Bool}
    → Delivers status f.number f.kind t r → r ≡ now → Taking now status t f s l d o q
taking now status {f} {s} {l} {d} {o} {q} pre {t} e {r} h z =
    record {
      receiving = pre;
      turn = e;
      is =
          sym
          (subst (λ (y : Turn). Delivers status f.number f.kind y r) e h f.body (state_of s o q) (frames_of s.queue q) (in_use s.waiting)
          (begins s o q pre.exact))
          ∙ z;
    }
