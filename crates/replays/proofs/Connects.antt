-- `connectivity`, test by test. Assumes nothing.
use mathlib.Core.Path.{◌≡◌, refl, ◌∙◌}
use mathlib.Core.Logic.{◌⊎◌, inl, inr}
use mathlib.Core.Bool.{Bool, true, false, not, ◌&&◌}
use mathlib.Core.List.{List, []}
use Prim.Native.Nat.{ℕ, ◌≤◌, ◌<◌}
use native.Mathlib.Omega.{arith}
use lib.ListN.{length}
use lib.Dec.{leb}
use lib.Ieee.{Float}
use borrow.Author.Tests.{le-leb, lt-leb, leb-true, eq-eqb, ne_eqb, not-false}
use Rattle.std.proofs.lemmas.Bool.{and_parts}
use Rattle.rules.specs.declared.Answer.TheVariants.{Flag}
use Rattle.rules.specs.declared.Clock.{Clock}
use Rattle.rules.specs.declared.Refusal.{Refusal}
use Rattle.rules.specs.declared.Connectivity.{Connectivity}
use Rattle.rules.specs.declared.Connectivity.TheVariants.{Disconnected, Reconnected, PeerUnavailable, Registered, PeerAvailable}
use Rattle.rules.specs.Codes.{connectivity_number, ReadsConnectivity}
use Rattle.std.specs.Prelude.{Result, Ok, Err, is_err}
use Rattle.rules.specs.Lists.{Bytes, empty}
use Rattle.rules.specs.State as R
use Rattle.rules.specs.Clock.{held_back, replayed_at}
use Rattle.rules.specs.Progress.{outcome}
use Rattle.rules.specs.Replay.{too_soon, replay, connectivity}
use Rattle.rules.specs.Calls.{connects, step}
use Rattle.rules.specs.Buffers.{takes, taken_by, wrong_code}
use Rattle.outbox.specs.View.{unacked_of}
use Rattle.outbox.specs.Steps.{Replays}
use Rattle.peer_session.specs.declared.SessionState.{SessionState}
use Rattle.peer_session.specs.View.{state_of}
use Rattle.peer_session.specs.Sound.{sound_of, Full}
use Rattle.session.specs.Promise.{CalledWithList}
use Rattle.session.proofs.Queries.{empty-unacked}
use Rattle.session.proofs.Clocks.{clocked, exact_clocked}
use Rattle.session.proofs.WithList.{list-answers, list_meets}

one_of_five : (x : Connectivity) → not (leb 1 (connectivity_number x) && leb (connectivity_number x) 5) ≡ false
one_of_five Disconnected = refl
one_of_five Reconnected = refl
one_of_five PeerUnavailable = refl
one_of_five Registered = refl
one_of_five PeerAvailable = refl

pub up_to_three : (x : Connectivity) → leb 4 (connectivity_number x) ≡ false → (1 ≤ connectivity_number x) × (connectivity_number x ≤ 3)
up_to_three Disconnected e = (omega arith, omega arith)
up_to_three Reconnected e = (omega arith, omega arith)
up_to_three PeerUnavailable e = (omega arith, omega arith)
up_to_three Registered e = cc
up_to_three PeerAvailable e = cc

module _ (e : ℕ) (time : Float) (f : Bool) where
  -- the clock of a replay
  abbrev timed : Clock → Clock
  timed k = record { last_replay_at = time; generation = k.generation; released = k.released; persisted = k.persisted }

  list-alone : taken_by (connects e time f) ≡ takes true false false false
  unfolding taken_by
  list-alone = refl

  -- ---- the code

  known-code : 1 ≤ e → e ≤ 5 → not (leb 1 e && leb e 5) ≡ false
  known-code l h = rw (le-leb 1 e l, le-leb e 5 h)

  known : 1 ≤ e → e ≤ 5 → wrong_code (connects e time f) ≡ false
  unfolding wrong_code
  known = known-code

  code_below : e < 1 → wrong_code (connects e time f) ≡ true
  unfolding wrong_code
  code_below h = rw (lt-leb 1 e h)

  code-above : 5 < e → wrong_code (connects e time f) ≡ true
  unfolding wrong_code
  code-above h =
      let l : 1 ≤ e = omega arith in
      rw (le-leb 1 e l, lt-leb e 5 h)

  pub bad_code : (e ≡ 0) ⊎ (5 < e) → wrong_code (connects e time f) ≡ true
  bad_code (inl z) = code_below (omega (arith, z))
  bad_code (inr h) = code-above h

  pub read-code : (r : Result Connectivity Refusal) → ReadsConnectivity e r → wrong_code (connects e time f) ≡ is_err r
  unfolding wrong_code
  read-code (Ok x) h = rw h (one_of_five x)
  read-code (Err x) h = bad_code h.1

  pub known_one : (r : Result Connectivity Refusal) → ReadsConnectivity e r → is_err r ≡ false → (1 ≤ e) × (e ≤ 5)
  known_one (Ok x) h n =
      let z = and_parts (leb 1 (connectivity_number x)) (leb (connectivity_number x) 5) (not-false _ (one_of_five x)) in
      (omega (arith, h, leb-true 1 _ z.0), omega (arith, h, leb-true _ 5 z.1))
  known_one (Err x) h n = cc

  -- ---- the rule

  nothing_done : 1 ≤ e → e ≤ 3 → (t : R.State) → step (connects e time f) t ≡ outcome t (Flag true) []
  unfolding step connectivity
  nothing_done a b t = rw (known-code a (omega arith), le-leb e 3 b)

  module _ (a : 4 ≤ e) (b : e ≤ 5) (t : R.State) where
    code : not (leb 1 e && leb e 5) ≡ false
    code = known-code (omega arith) b

    later : leb e 3 ≡ false
    later = lt-leb e 3 (omega arith)

    none-unacked : empty t.outbox.unacked ≡ true → step (connects e time f) t ≡ outcome t (Flag true) []
    unfolding step connectivity
    none-unacked z = rw (code, later, z)

    held : empty t.outbox.unacked ≡ false → (not f && too_soon time t) ≡ true → step (connects e time f) t ≡ outcome t (Flag false) []
    unfolding step connectivity
    held z h = rw (code, later, z, h)

    -- the time moves also where nothing is listed
    replayed : empty t.outbox.unacked ≡ false → (not f && too_soon time t) ≡ false
        → step (connects e time f) t ≡ outcome (replayed_at time t) (Flag true) (replay t)
    unfolding step connectivity
    replayed z h = rw (code, later, z, h)

  -- ---- the call

  module _ (s : SessionState) (l : List ℕ) (long : 4096 ≤ length l) (sound : sound_of s ≡ true) (full : Full s) where
    pub quiet : 1 ≤ e → e ≤ 3 → CalledWithList (connects e time f) s l (record { session = s; answer = Flag true; events = 0 }) l
    quiet a b =
        list-answers (connects e time f) list-alone s l long (known a (omega arith)) sound full (Flag true) (λ o q lo. nothing_done a b (state_of s o q))

    module _ (a : 4 ≤ e) (b : e ≤ 5) where
      is_known : wrong_code (connects e time f) ≡ false
      is_known = known (omega arith) b

      pub nothing-unacked : s.outbox.count ≡ 0 → CalledWithList (connects e time f) s l (record { session = s; answer = Flag true; events = 0 }) l
      nothing-unacked z =
          list-answers (connects e time f) list-alone s l long is_known sound full (Flag true)
          (λ o q lo. none-unacked a b (state_of s o q) (empty-unacked s.outbox o full.unacked ∙ eq-eqb s.outbox.count 0 z))

      module _ (some : s.outbox.count ≡ 0 → ⊥) where
        unacked : (o : Bytes) → empty (unacked_of s.outbox o) ≡ false
        unacked o = empty-unacked s.outbox o full.unacked ∙ ne_eqb s.outbox.count 0 some

        pub kept_back : (not f && held_back time s.clock.last_replay_at) ≡ true
            → CalledWithList (connects e time f) s l (record { session = s; answer = Flag false; events = 0 }) l
        kept_back h =
            list-answers (connects e time f) list-alone s l long is_known sound full (Flag false)
            (λ o q lo. held a b (state_of s o q) (unacked o) h)

        pub replays : (not f && held_back time s.clock.last_replay_at) ≡ false → (l' : List ℕ) (n : ℕ) → Replays s.outbox l 0 l' n
            → CalledWithList (connects e time f) s l (record { session = clocked (timed s.clock) s; answer = Flag true; events = n }) l'
        unfolding replay
        replays h l' n r =
            list_meets (connects e time f) list-alone s l long is_known sound full (clocked (timed s.clock) s) (Flag true) n l'
            (λ o q i lo.
            record {
              events = replay (state_of s o q);
              does = replayed a b (state_of s o q) (unacked o) h;
              exact = exact_clocked (timed s.clock) s i.good.exact;
              listed = r.listed o (omega (arith, i.good.exact.outbox));
            })
