-- A restore leaves a sound session sound. Assumes nothing.
use Rattle.std.specs.Prelude.{if◌then◌else◌}
use mathlib.Core.Path.{◌≡◌, ap, ◌∙◌}
use mathlib.Core.Bool.{Bool, true, false}
use mathlib.Core.List.{List, []}
use Prim.Native.Nat.{ℕ, ◌≤◌}
use native.Mathlib.Omega.{arith}
use lib.ListN.{length, replicate, length-replicate}
use Rattle.rules.specs.declared.Refusal.TheVariants.{ShortBuffer}
use Rattle.rules.specs.Lists.{Bytes}
use Rattle.rules.specs.Calls.{Call, restores}
use Rattle.peer_session.specs.declared.SessionState.{SessionState}
use Rattle.peer_session.specs.View.{held}
use Rattle.peer_session.specs.Sound.{sound_of, Full}
use Rattle.peer_session.proofs.Lasting.{same-sound}
use Rattle.session.specs.declared.Returned.{Returned}
use Rattle.session.specs.Promise.{Exit, exit, lent, unchanged, promise}
use Rattle.session.proofs.Lasting.{stays-sound}
use Rattle.starts.specs.declared.Reliable.{Reliable}
use Rattle.starts.specs.Started.{short_record}
use Rattle.starts.specs.Records.{reliable_of}
use Rattle.restores.specs.declared.Handoff.{Handoff}
use Rattle.restores.specs.Restored.{handoff_given, restore_promise, Restored}

module _ (x : Reliable) (ns ks : List ℕ) (b : Bytes) (given : Handoff) (body : Bytes) (s : SessionState) (o : Bytes) (y : Returned) (o' : Bytes)
    (promised : Restored x ns ks b given body s o y o') (h : sound_of s ≡ true) (full : Full s) (left : Full y.session) (lo : 65536 ≤ length o) where
  pub restores-sound : sound_of y.session ≡ true
  unfolding restore_promise
  restores-sound = by (short_record ns ks b) (promised [] [] q lq)
    where
      q : Bytes
      q = replicate 32768 0

      lq : 32768 ≤ length q
      lq = omega (arith, length-replicate {A = ℕ} 32768 0)

      call : Call
      call = restores (reliable_of x ns ks b) (handoff_given given body)

      by : (u : Bool)
          → exit (held y.session) y.answer y.events (lent [] [] o' q)
          ≡ (if u then unchanged ShortBuffer s (lent [] [] o q) else promise call s (lent [] [] o q))
          → sound_of y.session ≡ true
      by true e = same-sound s y.session (ap (λ (z : Exit). z.session) e) ∙ h
      by false e = stays-sound call s (lent [] [] o q) (lent [] [] o' q) y e h full left lo lq
