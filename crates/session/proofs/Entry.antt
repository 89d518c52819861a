-- How an exported call meets its promise, from the tests that it made at its entry. Assumes nothing.
use mathlib.Core.Path.{◌≡◌, refl, sym, ap, ◌∙◌}
use mathlib.Core.Bool.{Bool, true, false, ◌&&◌}
use mathlib.Core.List.{[]}
use Prim.Native.Nat.{ℕ, ◌≤◌, ◌<◌}
use lib.ListN.{length, take}
use lib.Dec.{leb}
use borrow.Author.Tests.{le-ltb, lt-leb}
use Rattle.rules.specs.declared.Answer.{Answer}
use Rattle.rules.specs.declared.Answer.TheVariants.{Refused}
use Rattle.rules.specs.declared.Refusal.{Refusal}
use Rattle.rules.specs.declared.Refusal.TheVariants.{ShortBuffer, UnknownCode, BadRecord}
use Rattle.rules.specs.Lists.{Bytes}
use Rattle.rules.specs.Progress.{outcome}
use Rattle.rules.specs.Calls.{Call, step}
use Rattle.rules.specs.Buffers.{Lent, taken_by, short, wrong_code, queue_end, queue_reach}
use Rattle.outbox.proofs.View.{packed-unacked, exact-total}
use Rattle.queue.proofs.View.{frames-bytes, frames-total}
use Rattle.peer_session.specs.declared.SessionState.{SessionState}
use Rattle.peer_session.specs.View.{held, encode, state_of, Exact}
use Rattle.peer_session.specs.Sound.{sound_of, Full}
use Rattle.peer_session.proofs.View.{Good, exact-held, sound-good}
use Rattle.session.specs.declared.Returned.{Returned}
use Rattle.session.specs.Entry.{lacking}
use Rattle.session.specs.Promise.{exit, unchanged, promise, Called, Turned}
use Rattle.session.proofs.Promises.{promise-short, promise-code, promise_unsound, promise-follows, Follows, follows_is, Stored, refuses}

-- ---- what is known of a sound session with its stores

pub record Entered (s : SessionState) (o q : Bytes) : Type 0 where
  pub good : Good s o q
  pub held-is : held s ≡ encode (state_of s o q)
  pub stored : Stored (state_of s o q) o q

pub stored_exact : (s : SessionState) (o q : Bytes) → Exact s (length o) (length q) → Stored (state_of s o q) o q
stored_exact s o q e =
    record {
      outbound = packed-unacked s.outbox o ∙ ap (λ (n : ℕ). take n o) (exact-total s.outbox o e.outbox);
      queue = frames-bytes s.queue q e.queued ∙ ap (λ (n : ℕ). take n q) (sym (frames-total s.queue q e.queued));
    }

pub entered : (s : SessionState) (o q : Bytes) → sound_of s ≡ true → Full s → 65536 ≤ length o → 32768 ≤ length q → Entered s o q
entered s o q e full lo lq =
    let g : Good s o q = sound-good s o q e full lo lq in
    record { good = g; held-is = exact-held s o q g.exact; stored = stored_exact s o q g.exact }

-- ---- the tests at the entry, where a call passes them

pub lacks_none : (l d o q : ℕ) → 4096 ≤ l → 49152 ≤ d → 65536 ≤ o → 32768 ≤ q → lacking l d o q ≡ false
lacks_none l d o q hl hd ho hq = rw (le-ltb l 4096 hl, le-ltb d 49152 hd, le-ltb o 65536 ho, le-ltb q 32768 hq)

pub spends_none : (b : Bool) (n : ℕ) → (b ≡ true → n < 4294966000) → (b && leb 4294966000 n) ≡ false
spends_none true n h = lt-leb 4294966000 n (h refl)
spends_none false n h = refl

-- ---- a refusal as a value

pub turned : (c : Call) (s : SessionState) (l : Lent) {x : Refusal} {r : Returned} → Turned s x r → unchanged x s l ≡ promise c s l → Called c s l r l
turned c s l {x} {r} t e =
    ap (λ (z : SessionState). exit (held z) r.answer r.events l) t.session
    ∙ ap (λ (z : Answer). exit (held s) z r.events l) t.answer
    ∙ ap (λ (n : ℕ). exit (held s) (Refused x) n l) t.events
    ∙ e

module _ (c : Call) (s : SessionState) (l : Lent) where
  pub is-short : {r : Returned} → Turned s ShortBuffer r → short (taken_by c) l ≡ true → Called c s l r l
  is-short t e = turned c s l t (sym (promise-short c s l e))

  module _ (long : short (taken_by c) l ≡ false) where
    pub is_wrong : {r : Returned} → Turned s UnknownCode r → wrong_code c ≡ true → Called c s l r l
    is_wrong t e = turned c s l t (sym (promise-code c s l long e))

    module _ (known : wrong_code c ≡ false) where
      pub is_unsound : {r : Returned} → Turned s BadRecord r → sound_of s ≡ false → Called c s l r l
      is_unsound t e = turned c s l t (sym (promise_unsound c s l long known e))

      -- the rule book's outcome
      pub meets : {r : SessionState} {a : Answer} {n : ℕ} {l' : Lent} → sound_of s ≡ true → Follows c (state_of s l.outbound l.queue) l r a n l'
          → exit (held r) a n l' ≡ promise c s l
      meets e f = follows_is long f ∙ sym (promise-follows c s l long known e)

      -- a refusal by the rule book that changes nothing
      pub is_refused : {r : Returned} {x : Refusal} → Turned s x r → sound_of s ≡ true → Entered s l.outbound l.queue
          → queue_reach c (state_of s l.outbound l.queue) ≡ queue_end (state_of s l.outbound l.queue)
          → step c (state_of s l.outbound l.queue) ≡ outcome (state_of s l.outbound l.queue) (Refused x) [] → Called c s l r l
      is_refused t e i q d = turned c s l t (meets e (refuses {c = c} {s = s} {l = l} (state_of s l.outbound l.queue) i.held-is i.stored q d))
