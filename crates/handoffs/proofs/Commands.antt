-- `channel_command`, test by test. Assumes nothing.
use mathlib.Core.Path.{◌≡◌, refl}
use mathlib.Core.Bool.{Bool, true, false}
use mathlib.Core.List.{List, []}
use mathlib.Core.Option.{Option}
use Prim.Native.Nat.{ℕ, ◌≤◌, ◌<◌}
use native.Mathlib.Omega.{arith}
use lib.ListN.{length, replicate, length-replicate}
use borrow.Author.Tests.{le-leb, lt-leb, lt-ltb, le-ltb}
use Rattle.rules.specs.declared.Answer.TheVariants.{Refused}
use Rattle.rules.specs.declared.Refusal.TheVariants.{GenerationsExhausted, HandoffTooLong}
use Rattle.rules.specs.Lists.{Bytes}
use Rattle.rules.specs.State as R
use Rattle.rules.specs.Progress.{Outcome, outcome}
use Rattle.rules.specs.Handoff.{Command, starting, command_size, command}
use Rattle.rules.specs.Calls.{commands, step}
use Rattle.rules.specs.Buffers.{taken_by, wrong_code, queue_reach}
use Rattle.outbox.specs.View.{ExactOutbox}
use Rattle.peer_session.specs.declared.SessionState.{SessionState}
use Rattle.peer_session.specs.View.{state_of}
use Rattle.peer_session.specs.Sound.{sound_of, Full}
use Rattle.peer_session.proofs.View.{Parts, parts}
use Rattle.session.specs.declared.Returned.{Returned}
use Rattle.session.specs.Promise.{CalledWithOutbound}
use Rattle.session.proofs.Entry.{Entered, entered}
use Rattle.setup.specs.Steps.{Ready, Comes}
use Rattle.setup.proofs.Lending.{Plain, is-taken, comes}
use Rattle.setup.proofs.Steps.{exact-staged}
use Rattle.handoffs.specs.Commands.{starting_in, commanding, Vacant, Holding}

pub plain : {b : Bool} {c : Option Command} → Plain (commands b c) true true false
unfolding taken_by wrong_code queue_reach
plain = record { taken = refl; known = refl; reach = λ t. refl }

-- ---- the rule

abbrev pub from_start : Bool → Option Command → R.State → Outcome
from_start b c t = commanding b c (starting b t)

module _ (b : Bool) (c : Option Command) (t : R.State) where
  pub spent : 4294966000 ≤ t.clock.generation → step (commands b c) t ≡ outcome t (Refused GenerationsExhausted) []
  unfolding step command
  spent h = rw (le-leb 4294966000 t.clock.generation h)

  module _ (h : t.clock.generation < 4294966000) where
    pub too_long : 4096 < command_size c → step (commands b c) t ≡ outcome t (Refused HandoffTooLong) []
    unfolding step command
    too_long k = rw (lt-leb 4294966000 t.clock.generation h, lt-ltb 4096 (command_size c) k)

pub carried_out : (b : Bool) (c : Option Command) (t : R.State) → t.clock.generation < 4294966000 → command_size c ≤ 4096 → step (commands b c) t ≡ from_start b c t
unfolding step command
carried_out true c t h k = rw (lt-leb 4294966000 t.clock.generation h, le-ltb 4096 (command_size c) k)
carried_out false c t h k = rw (lt-leb 4294966000 t.clock.generation h, le-ltb 4096 (command_size c) k)

-- ---- the session in which it is carried out

module _ (s : SessionState) {x : SessionState} where
  pub outbox-started : (b : Bool) → x ≡ starting_in b s → {size : ℕ} → ExactOutbox s.outbox size → ExactOutbox x.outbox size
  outbox-started true e h = rw e h
  outbox-started false e h = rw e h

  pub vacant : (b : Bool) → x ≡ starting_in b s → {size n : ℕ} → Ready s size → s.handoff.present ≡ false → n ≤ 4096 → Vacant x size n
  vacant true e r a h = rw e (record { ready = record { exact = r.exact; low = r.low }; absent = a; short = h })
  vacant false e r a h = rw e (record { ready = r; absent = a; short = h })

  pub holding : (b : Bool) → x ≡ starting_in b s → (o : Bytes) → sound_of s ≡ true → Full s → 65536 ≤ length o → s.handoff.present ≡ true → Holding x (length o)
  holding b e o sound full lo p = go b e
    where
      q : Bytes
      q = replicate 32768 0

      lq : length q ≡ 32768
      lq = length-replicate {A = ℕ} 32768 0

      i : Entered s o q
      i = entered s o q sound full lo (omega (arith, lq))

      len : s.handoff.len ≤ 4096
      len = rw p at i.good.exact.rest.handed

      is : Parts s
      is = parts s sound full

      fits : s.handoff.len ≤ length s.handoff.body
      fits = omega (arith, len, full.handoff)

      go : (b : Bool) → x ≡ starting_in b s → Holding x (length o)
      go true e = rw e (record { sound = is.outbox; exact = is.unacked o lo; within = fits; present = p })
      go false e = rw e (record { sound = is.outbox; exact = is.unacked o lo; within = fits; present = p })

-- ---- the call

from-started : (b : Bool) (c : Option Command) {s : SessionState} {l : List ℕ} {o : Bytes} {r : Returned} {l' : List ℕ} {o' : Bytes} → Comes (commanding b c) (starting_in b s) l o r l' o'
    → Comes (from_start b c) s l o r l' o'
from-started true c {s = s} w =
    record { shown = w.shown; does = w.does; exact = λ size e. w.exact size (exact-staged _ _ s e); bytes = w.bytes; queue = w.queue; listed = w.listed }
from-started false c w = w

module _ (b : Bool) (k : Option Command) (s : SessionState) (l : List ℕ) (o : Bytes) (ll : 4096 ≤ length l) (lo : 65536 ≤ length o) (sound : sound_of s ≡ true) (full : Full s)
    (low : s.clock.generation < 4294966000) (few : command_size k ≤ 4096) where
  pub carries_out : {x : SessionState} {c : Option Command} {r : Returned} {l' : List ℕ} {o' : Bytes} → x ≡ starting_in b s → k ≡ c → Comes (commanding b c) x l o r l' o'
      → CalledWithOutbound (commands b k) s l o r l' o'
  carries_out {x} {c} {r} {l'} {o'} e f w d q lq =
      let v : Comes (commanding b c) (starting_in b s) l o r l' o' = rw e at w in
      let u : Comes (commanding b k) (starting_in b s) l o r l' o' = rw f v in
      comes plain s l d o q (λ z. ll) sound full lo lq (from-started b k u) (carried_out b k (state_of s o q) low few) is-taken

-- ---- a command as C gives it
