-- A call leaves a sound session sound, so none after a start is refused for it. Assumes nothing.
use mathlib.Core.Path.{◌≡◌, refl, ap, ◌∙◌}
use mathlib.Core.Bool.{Bool, true, false}
use Prim.Native.Nat.{◌≤◌}
use lib.ListN.{length}
use Rattle.rules.specs.Calls.{Call, step}
use Rattle.rules.specs.Buffers.{Lent, taken_by, short, wrong_code}
use Rattle.rules.proofs.Sound.{parts-sound, step-sound}
use Rattle.peer_session.specs.declared.SessionState.{SessionState}
use Rattle.peer_session.specs.View.{held, state_of}
use Rattle.peer_session.specs.Sound.{sound_of, Full}
use Rattle.peer_session.proofs.View.{sound-good}
use Rattle.peer_session.proofs.Lasting.{same-sound, settles-sound}
use Rattle.session.specs.declared.Returned.{Returned}
use Rattle.session.specs.Promise.{Exit, follows, promise, Called}
use Rattle.session.proofs.Promises.{promise-short, promise-code, promise-follows}

module _ (c : Call) (s : SessionState) (l l' : Lent) (r : Returned) (called : Called c s l r l') (h : sound_of s ≡ true) (full : Full s) (left : Full r.session)
    (lo : 65536 ≤ length l.outbound) (lq : 32768 ≤ length l.queue) where
  pub stays-sound : sound_of r.session ≡ true
  unfolding follows
  stays-sound = at-short (short (taken_by c) l) refl
    where
      is : {x : Exit} → promise c s l ≡ x → held r.session ≡ x.session
      is e = ap (λ (z : Exit). z.session) (called ∙ e)

      at_code : (b : Bool) → short (taken_by c) l ≡ false → wrong_code c ≡ b → sound_of r.session ≡ true
      at_code true long e = same-sound s r.session (is (promise-code c s l long e)) ∙ h
      at_code false long e = go (is (promise-follows c s l long e h))
        where
          go : held r.session ≡ (follows c (state_of s l.outbound l.queue) l).session → sound_of r.session ≡ true
          go z =
              settles-sound (step c (state_of s l.outbound l.queue)).state r.session left z
              (step-sound c (state_of s l.outbound l.queue) (parts-sound (state_of s l.outbound l.queue) (sound-good s l.outbound l.queue h full lo lq).sound))

      at-short : (b : Bool) → short (taken_by c) l ≡ b → sound_of r.session ≡ true
      at-short true e = same-sound s r.session (is (promise-short c s l e)) ∙ h
      at-short false e = at_code (wrong_code c) e refl
