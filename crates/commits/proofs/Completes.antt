-- The two calls of a commit, test by test. Assumes nothing.
use mathlib.Core.Path.{◌≡◌, refl, sym, ap, ◌∙◌}
use mathlib.Core.Bool.{Bool, true, false}
use mathlib.Core.List.{List, [], ◌++◌}
use Prim.Native.Nat.{ℕ, ◌-◌, ◌≤◌, ◌<◌}
use native.Mathlib.Omega.{arith}
use lib.ListN.{length}
use borrow.Author.Tests.{lt-ltb, le-ltb}
use Rattle.rules.specs.declared.Answer.TheVariants.{Done, Prepared, Refused}
use Rattle.rules.specs.declared.Clock.{Clock}
use Rattle.rules.specs.declared.PreparedCommit.{PreparedCommit}
use Rattle.rules.specs.declared.Refusal.TheVariants.{BadRecord, CommitNumber}
use Rattle.rules.specs.Lists.{Bytes}
use Rattle.rules.specs.State as R
use Rattle.rules.specs.Events.{Event}
use Rattle.rules.specs.Progress.{goes, outcome, answers, listing}
use Rattle.rules.specs.Commits.{prepare_commit, release_by, persist_by, notify_committed, complete_commit}
use Rattle.rules.specs.Calls.{prepares, completes, step}
use Rattle.rules.specs.Buffers.{takes, taken_by, short, wrong_code}
use Rattle.events.specs.Written.{Listed}
use Rattle.events.proofs.Laws.{listed_then}
use Rattle.outbox.specs.View.{unacked_of}
use Rattle.outbox.proofs.View.{sound_facts}
use Rattle.peer_session.specs.declared.SessionState.{SessionState}
use Rattle.peer_session.specs.View.{state_of, Exact}
use Rattle.peer_session.specs.Sound.{sound_of, Full}
use Rattle.peer_session.proofs.View.{Parts, parts}
use Rattle.session.specs.declared.Returned.{Returned}
use Rattle.session.specs.Promise.{lent, Answered, CalledWithList, Turned}
use Rattle.session.proofs.Promises.{promise_unsound}
use Rattle.session.proofs.Lengths.{long-enough, not_taken}
use Rattle.session.proofs.Entry.{entered, meets}
use Rattle.session.proofs.Clocks.{clocked, exact_clocked}
use Rattle.session.proofs.WithList.{list_refused, list_meets}
use Rattle.commits.specs.declared.ReleasedFrames.{ReleasedFrames}
use Rattle.commits.specs.Releases.{Persists, MayRelease, frames, ReleasesBy, notices}

-- ---- prepare

module _ (s : SessionState) where
  long : (l : List ℕ) (d o q : Bytes) → short (taken_by prepares) (lent l d o q) ≡ false
  unfolding taken_by
  long l d o q = long-enough (taken_by prepares) (lent l d o q) not_taken not_taken not_taken not_taken

  known : wrong_code prepares ≡ false
  unfolding wrong_code
  known = refl

  pub prepare_unsound : sound_of s ≡ false → Answered prepares s (Refused BadRecord)
  prepare_unsound e l d o q lo lq = sym (promise_unsound prepares s (lent l d o q) (long l d o q) known e)

  pub prepare_sound : sound_of s ≡ true → Full s
      → Answered prepares s (Prepared (record { generation = s.clock.generation; outbound = s.outbox.next - 1; remote = s.remote }))
  unfolding taken_by step prepare_commit
  prepare_sound e full l d o q lo lq =
      meets prepares s (lent l d o q) (long l d o q) known {r = s} e
      (record {
        left = state_of s o q;
        events = [];
        does = refl;
        session = (entered s o q e full lo lq).held-is;
        count = refl;
        list = refl;
        delivery = refl;
        outbound = refl;
        queue = refl;
      })

-- ---- complete

-- a notice, after what is listed
noticed : (b : Bool) (t : R.State) (es : List Event) → answers Done (listing es (notify_committed b t)) ≡ outcome t Done (es ++ notices b)
noticed true t es = refl
noticed false t es = refl

module _ (c : PreparedCommit) (b : Bool) where
  list-alone : taken_by (completes c b) ≡ takes true false false false
  unfolding taken_by
  list-alone = refl

  no_code : wrong_code (completes c b) ≡ false
  unfolding wrong_code
  no_code = refl

  -- ---- the rule

  outbound-past : 18446744073709551614 < c.outbound → (t : R.State) → step (completes c b) t ≡ outcome t (Refused CommitNumber) []
  unfolding step complete_commit
  outbound-past h t = rw (lt-ltb 18446744073709551614 c.outbound h)

  module _ (ho : c.outbound ≤ 18446744073709551614) where
    remote-past : 18446744073709551614 < c.remote → (t : R.State) → step (completes c b) t ≡ outcome t (Refused CommitNumber) []
    unfolding step complete_commit
    remote-past h t = rw (le-ltb 18446744073709551614 c.outbound ho, lt-ltb 18446744073709551614 c.remote h)

    completed : c.remote ≤ 18446744073709551614 → (t r : R.State) (es : List Event) → release_by c (persist_by b c t) ≡ goes r es
        → step (completes c b) t ≡ outcome r Done (es ++ notices b)
    unfolding step complete_commit
    completed h t r es e = rw (le-ltb 18446744073709551614 c.outbound ho, le-ltb 18446744073709551614 c.remote h, e) (noticed b r es)

  -- ---- the call

  module _ (s : SessionState) (l : List ℕ) (long : 4096 ≤ length l) (sound : sound_of s ≡ true) (full : Full s) where
    pub outbound_refused : {r : Returned} → Turned s CommitNumber r → 18446744073709551614 < c.outbound → CalledWithList (completes c b) s l r l
    outbound_refused t h =
        list_refused (completes c b) list-alone s l long no_code sound full CommitNumber t (λ o q lo. outbound-past h (state_of s o q))

    module _ (ho : c.outbound ≤ 18446744073709551614) where
      pub remote_refused : {r : Returned} → Turned s CommitNumber r → 18446744073709551614 < c.remote → CalledWithList (completes c b) s l r l
      remote_refused t h =
          list_refused (completes c b) list-alone s l long no_code sound full CommitNumber t (λ o q lo. remote-past ho h (state_of s o q))

      -- what a release asks, at the clock k
      pub may_release : (k : Clock) → MayRelease (clocked k s) (length l)
      may_release k =
          let p : Parts s = parts s sound full in
          record { sound = p.outbox; messages = (sound_facts s.outbox p.outbox).few; acks = p.waiting.few; room = long }

      pub completes_it : c.remote ≤ 18446744073709551614 → (l₁ l₂ : List ℕ) (k : Clock) (r : ReleasedFrames) (n : ℕ)
          → Persists b c s.clock k → ReleasesBy c (clocked k s) l r l₁ → Listed (notices b) l₁ r.events l₂ n
          → CalledWithList (completes c b) s l (record { session = r.session; answer = Done; events = n }) l₂
      completes_it hr l₁ l₂ k r n p f li =
          list_meets (completes c b) list-alone s l long no_code sound full r.session Done n l₂
          (λ o q i lo.
          let x : Exact (clocked k s) (length o) (length q) = exact_clocked k s i.good.exact in
          let es : List Event = frames c (state_of (clocked k s) o q) in
          record {
            events = es ++ notices b;
            does =
                completed ho hr (state_of s o q) (state_of r.session o q) es
                (ap (release_by c) (sym (p (state_of s o q) refl)) ∙ f.does o q x);
            exact = f.exact o q x;
            listed = listed_then (omega arith) (f.listed o q x) (li (unacked_of r.session.outbox o));
          })
