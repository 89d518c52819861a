-- A keepalive, test by test. Assumes nothing.
use mathlib.Core.Path.{◌≡◌, refl}
use mathlib.Core.Bool.{true, false}
use mathlib.Core.List.{List, [], ◌∷◌, map}
use Prim.Native.Nat.{ℕ, ◌*◌, ◌≤◌}
use native.Mathlib.Omega.{arith}
use lib.ListN.{length}
use Rattle.stores.specs.Placed.{placed}
use Rattle.rules.specs.declared.Answer.TheVariants.{Flag}
use Rattle.rules.specs.Events.{keepalive, send_ack, listed}
use Rattle.rules.specs.Acks.{receive_keepalive}
use Rattle.rules.specs.Calls.{gets_keepalive, step}
use Rattle.rules.specs.Buffers.{takes, taken_by, wrong_code, flat}
use Rattle.events.specs.Written.{Listed}
use Rattle.events.proofs.Laws.{listed_then}
use Rattle.numbers.specs.Seats.{in_use}
use Rattle.outbox.specs.View.{unacked_of}
use Rattle.peer_session.specs.declared.SessionState.{SessionState}
use Rattle.peer_session.specs.Sound.{sound_of, Full}
use Rattle.session.specs.Promise.{ToldWithList}
use Rattle.session.proofs.WithList.{list_meets}

alone : taken_by gets_keepalive ≡ takes true false false false
unfolding taken_by
alone = refl

known : wrong_code gets_keepalive ≡ false
unfolding wrong_code
known = refl

-- the notice
first-listed : {l l' : List ℕ} → l' ≡ placed l (4 * 0) (5 ∷ 0 ∷ 0 ∷ 0 ∷ []) → Listed (keepalive ∷ []) l 0 l' 1
unfolding flat listed
first-listed w us = record { count = refl; words = λ at. w }

-- a call that hands no session back promises what it would promise with the session that it was given
module _ (s : SessionState) (l : List ℕ) (ll : 4096 ≤ length l) where
  pub told : {l₁ l₂ : List ℕ} {n : ℕ} → sound_of s ≡ true → Full s → l₁ ≡ placed l (4 * 0) (5 ∷ 0 ∷ 0 ∷ 0 ∷ [])
      → Listed (map send_ack (in_use s.retry)) l₁ 1 l₂ n → ToldWithList gets_keepalive s l (record { answer = Flag true; events = n }) l₂
  unfolding step receive_keepalive
  told {l₁} {l₂} {n} sound full w li =
      list_meets gets_keepalive alone s l ll known sound full s (Flag true) n l₂
      (λ o q i lo.
      record {
        events = keepalive ∷ map send_ack (in_use s.retry);
        does = refl;
        exact = i.good.exact;
        listed = listed_then (omega arith) (first-listed w (unacked_of s.outbox o)) (li (unacked_of s.outbox o));
      })
