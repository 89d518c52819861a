-- A restore that is refused, by anything but 31, leaves the session and the outbound store as they were. Assumes nothing.
use Rattle.std.specs.Prelude.{if◌then◌else◌}
use mathlib.Core.Path.{◌≡◌, refl, ap}
use mathlib.Core.Bool.{Bool, true, false}
use mathlib.Core.List.{List, []}
use Prim.Native.Nat.{ℕ, ◌≤◌}
use native.Mathlib.Omega.{arith}
use lib.ListN.{length, replicate, length-replicate}
use Rattle.rules.specs.declared.Refusal.TheVariants.{ShortBuffer}
use Rattle.rules.specs.Answers.{refused_by}
use Rattle.rules.specs.Lists.{Bytes, ◌∈◌}
use Rattle.rules.specs.Calls.{Call, restores}
use Rattle.rules.specs.Refusals.{excepted}
use Rattle.rules.specs.Buffers.{taken_by}
use Rattle.peer_session.specs.declared.SessionState.{SessionState}
use Rattle.peer_session.specs.View.{held}
use Rattle.peer_session.specs.Sound.{Full}
use Rattle.session.specs.declared.Returned.{Returned}
use Rattle.session.specs.Promise.{Exit, exit, lent, unchanged, promise}
use Rattle.session.proofs.Refusals.{with_outbound_alone_same}
use Rattle.starts.specs.declared.Reliable.{Reliable}
use Rattle.starts.specs.Started.{short_record}
use Rattle.starts.specs.Records.{reliable_of}
use Rattle.restores.specs.declared.Handoff.{Handoff}
use Rattle.restores.specs.Restored.{handoff_given, restore_promise, Restored}

module _ (x : Reliable) (ns ks : List ℕ) (b : Bytes) (given : Handoff) (body : Bytes) (s : SessionState) (o : Bytes) (y : Returned) (o' : Bytes)
    (promised : Restored x ns ks b given body s o y o') (full : Full s) where
  abbrev call : Call
  call = restores (reliable_of x ns ks b) (handoff_given given body)

  abbrev Same : Type 0
  Same = ((held y.session ≡ held s) × (y.events ≡ 0)) × (o' ≡ o)

  pub restore_same : (refused_by y.answer ≡ 0 → ⊥) → (refused_by y.answer ∈ excepted call → ⊥) → Same
  unfolding restore_promise taken_by
  restore_same k m = by (short_record ns ks b) promised
    where
      by : (u : Bool)
          → ((l : List ℕ) (d q : Bytes) → 32768 ≤ length q
          → exit (held y.session) y.answer y.events (lent l d o' q) ≡ (if u then unchanged ShortBuffer s (lent l d o q) else promise call s (lent l d o q)))
          → Same
      by true e =
          let z = e [] [] (replicate 32768 0) (omega (arith, length-replicate {A = ℕ} 32768 0)) in
          ((ap (λ (i : Exit). i.session) z, ap (λ (i : Exit). i.events) z), ap (λ (i : Exit). i.lent.outbound) z)
      by false e = with_outbound_alone_same call s y full k m refl o o' e
