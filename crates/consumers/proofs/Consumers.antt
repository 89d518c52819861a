-- consumer_ready. Assumes nothing.
use Rattle.std.specs.Prelude.{Result, Ok, Err, is_err}
use Rattle.rules.specs.Codes.{ReadsMode}
use Rattle.rules.specs.declared.Refusal.{Refusal}
use mathlib.Core.Path.{◌≡◌, refl, sym, ap, ◌∙◌, subst}
use mathlib.Core.Bool.{true, false}
use mathlib.Core.List.{List, [], ◌∷◌, map}
use Prim.Native.Nat.{ℕ, ◌≤◌, ◌<◌}
use native.Mathlib.Omega.{arith}
use lib.ListN.{length}
use lib.Dec.{ltb}
use borrow.Author.Tests.{le-ltb, lt-ltb, le-leb, lt-leb, ltb-true}
use Rattle.rules.specs.declared.HostStatus.{HostStatus}
use Rattle.rules.specs.declared.ReceiveMode.{ReceiveMode}
use Rattle.rules.specs.declared.ReceiveMode.TheVariants.{Raw, Proposal, Channel, Rejection, Retiring}
use Rattle.rules.specs.declared.Answer.TheVariants.{Done, Refused}
use Rattle.rules.specs.declared.Refusal.TheVariants.{GenerationsExhausted}
use Rattle.rules.specs.Lists.{Bytes, kept, rising}
use Rattle.rules.specs.State as R
use Rattle.rules.specs.State.{Frame, State, frame_number, mode_is}
use Rattle.rules.specs.Progress.{Progress, goes, stays, ◌then◌, forgiven, outcome, answers}
use Rattle.rules.specs.Receiving.{above, up_to, mode_of, answer_frame, drop_obsolete, drain, consumer_ready}
use Rattle.rules.specs.Calls.{is_ready, step}
use Rattle.rules.specs.Buffers.{takes, taken_by, wrong_code, queue_end, queue_reach}
use Rattle.rules.proofs.Lists.{and_left, and_right}
use Rattle.rules.proofs.Sound.{Sound, parts-sound}
use Rattle.std.specs.Prelude.{None}
use Rattle.events.specs.Written.{books, ends}
use Rattle.events.proofs.Laws.{write-none}
use Rattle.queue.proofs.View.{frames-total}
use Rattle.peer_session.specs.declared.SessionState.{SessionState}
use Rattle.peer_session.specs.View.{state_of, Exact}
use Rattle.peer_session.proofs.View.{Good}
use Rattle.session.specs.Promise.{lent, Called}
use Rattle.delivery.specs.declared.Turn.{Turn}
use Rattle.draining.specs.declared.Ended.{Ended}
use Rattle.draining.specs.Turns.{turn_of}
use Rattle.draining.specs.Ends.{Stores, Carrying, Carries}
use Rattle.draining.specs.Arrived.{Arrived}
use Rattle.consumers.specs.Modes.{with_mode}
use Rattle.draining.proofs.Settled.{begins}
use Rattle.draining.proofs.Failing.{forgiven-final}
use Rattle.draining.proofs.Failing.{fresh-books}
use Rattle.draining.proofs.Calls as Calls
use Rattle.draining.proofs.Calls.{arrived-good}
use Rattle.draining.proofs.Calls.{arrived_entered}

-- ---- the call takes all four buffers

pub ready-takes : (status : HostStatus) (mode : ℕ) → taken_by (is_ready status mode) ≡ takes true true true true
unfolding taken_by
ready-takes status mode = refl

pub ready-known : (status : HostStatus) (mode : ℕ) → mode ≤ 4 → wrong_code (is_ready status mode) ≡ false
unfolding wrong_code
ready-known status mode h = le-ltb 4 mode h

-- ---- modes

-- each mode has a code
pub record Named (m : ReceiveMode) : Type 0 where
  pub code : ℕ
  pub small : code ≤ 4
  pub is : m ≡ mode_of code

pub named : (m : ReceiveMode) → Named m
named Raw = record { code = 0; small = omega arith; is = refl }
named Proposal = record { code = 1; small = omega arith; is = refl }
named Channel = record { code = 2; small = omega arith; is = refl }
named Rejection = record { code = 3; small = omega arith; is = refl }
named Retiring = record { code = 4; small = omega arith; is = refl }

-- ---- nothing in a rising queue is obsolete

all_above : (m n : ℕ) (fs : List Frame) → n ≤ m → rising frame_number m fs ≡ true → kept (above n) fs ≡ fs
unfolding kept rising
all_above m n [] h r = refl
all_above m n (f ∷ fs) h r =
    let lt : m < f.number = ltb-true m f.number (and_left (ltb m f.number) _ r) in
    rw (lt-ltb n f.number (omega arith)) (ap (λ (gs : List Frame). f ∷ gs) (all_above f.number n fs (omega arith) (and_right (ltb m f.number) _ r)))

none_up_to : (m n : ℕ) (fs : List Frame) → n ≤ m → rising frame_number m fs ≡ true → kept (up_to n) fs ≡ []
unfolding kept rising
none_up_to m n [] h r = refl
none_up_to m n (f ∷ fs) h r =
    let lt : m < f.number = ltb-true m f.number (and_left (ltb m f.number) _ r) in
    rw (lt-leb f.number n (omega arith)) (none_up_to f.number n fs (omega arith) (and_right (ltb m f.number) _ r))

none_obsolete : (s : State) → rising frame_number s.inbox.remote s.inbox.queue ≡ true → drop_obsolete s ≡ stays s
unfolding drop_obsolete
none_obsolete s r =
    ap {B = Progress} (λ (fs : List Frame). goes (R.queue_is fs s) (map answer_frame (kept (up_to s.inbox.remote) s.inbox.queue)))
    (all_above s.inbox.remote s.inbox.remote s.inbox.queue (omega arith) r)
    ∙ ap {B = Progress} (λ (fs : List Frame). goes s (map answer_frame fs)) (none_up_to s.inbox.remote s.inbox.remote s.inbox.queue (omega arith) r)

-- ---- the rule

module _ (status : HostStatus) (mode : ℕ) (t : State) (known : mode ≤ 4) where
  pub ready_spent : 4294966000 ≤ t.clock.generation → step (is_ready status mode) t ≡ outcome t (Refused GenerationsExhausted) []
  unfolding step consumer_ready
  ready_spent h = rw (le-ltb 4 mode known, le-leb 4294966000 t.clock.generation h)

  drained : t.clock.generation < 4294966000
      → step (is_ready status mode) t ≡ answers Done (forgiven (drop_obsolete (mode_is (mode_of mode) t) then drain status))
  unfolding step consumer_ready
  drained h = rw (le-ltb 4 mode known, lt-leb 4294966000 t.clock.generation h)

pub ready-reach : (status : HostStatus) (mode : ℕ) (t : State) → queue_reach (is_ready status mode) t ≡ queue_end t
unfolding queue_reach
ready-reach status mode t = refl

-- ---- the call

module _ (status : HostStatus) (mode : ℕ) (s : SessionState) (l : List ℕ) (d o q : Bytes) (a : Arrived s l d o q) (k : mode ≤ 4) where
  abbrev S : State
  S = state_of s o q

  good : Good s o q
  good = arrived-good s l d o q a

  abbrev r : SessionState
  r = with_mode (mode_of mode) s

  exact : Exact r (length o) (length q)
  exact =
      let e : Exact s (length o) (length q) = good.exact in
      record {
        outbox = e.outbox;
        queued = e.queued;
        rest = record { waiting = e.rest.waiting; retry = e.rest.retry; handoff = e.rest.handoff; handed = e.rest.handed; reject = e.rest.reject; rejects = e.rest.rejects };
      }

  pub ready_carrying : {m : ReceiveMode} {x : SessionState} {t : Turn} → m ≡ mode_of mode → x ≡ with_mode m s → t ≡ turn_of x → Carrying t s.waiting 0 x l 0 d 0 o q
  ready_carrying {m} {x} {t} e f g =
      let h : x ≡ r = f ∙ ap (λ (z : ReceiveMode). with_mode z s) e in
      let i : Sound S = good.sound in
      subst (λ (y : SessionState). Carrying t s.waiting 0 y l 0 d 0 o q) (sym h)
      (subst (λ (z : Turn). Carrying z s.waiting 0 r l 0 d 0 o q) (sym (g ∙ ap turn_of h))
      (record {
        exact = exact;
        under = begins r o q exact;
        good = parts-sound (state_of r o q) (i.0, i.1, record { code = i.2.code; size = i.2.size }, i.3);
        frames = i.1.frames;
        waits = good.exact.rest.waiting;
        within = omega arith;
        slow = omega (arith, a.low);
        few = omega arith;
        short = omega arith;
        listed = a.list;
        room = a.delivery;
      }))

  pub ready_done : {m : ReceiveMode} {x : SessionState} {t : Turn} → m ≡ mode_of mode → x ≡ with_mode m s → t ≡ turn_of x → {e : Ended} {l' : List ℕ} {d' o' q' : Bytes}
      → Carries status t s.waiting 0 x l 0 d 0 o q e l' d' o' q'
      → Called (is_ready status mode) s (lent l d o q) (record { session = e.session; answer = Done; events = e.events }) (lent l' d' o' q')
  ready_done {m} {x} {t} em f g {e} {l'} {d'} {o'} {q'} c =
      let h : x ≡ r = f ∙ ap (λ (z : ReceiveMode). with_mode z s) em in
      let c₁ : Carries status t s.waiting 0 r l 0 d 0 o q e l' d' o' q' = subst (λ (y : SessionState). Carries status t s.waiting 0 y l 0 d 0 o q e l' d' o' q') h c in
      let c₂ : Carries status (turn_of r) s.waiting 0 r l 0 d 0 o q e l' d' o' q' =
      subst (λ (z : Turn). Carries status z s.waiting 0 r l 0 d 0 o q e l' d' o' q') (g ∙ ap turn_of h) c₁ in
      let T : State = state_of r o q in
      let n : drop_obsolete (mode_is (mode_of mode) S) ≡ stays T = none_obsolete T good.sound.1.order in
      let st : Stores s (queue_reach (is_ready status mode) S) o q e.session o' q' =
      subst (λ (j : ℕ). Stores s j o q e.session o' q') (sym (ready-reach status mode S ∙ frames-total s.queue q good.exact.queued))
      (record { exact = c₂.stores.exact; outbound = c₂.stores.outbound; queue = c₂.stores.queue }) in
      Calls.comes (is_ready status mode) (ready-takes status mode) s l d o q a.list a.delivery a.outbound a.queue (ready-known status mode k) a.good
      (arrived_entered s l d o q a) st (forgiven (stays T then drain status)) Done
      (drained status mode S k a.low ∙ ap (λ (p : Progress). answers Done (forgiven (p then drain status))) n)
      (λ us.
      forgiven-final us (stays T then drain status) (books l 0 d 0) (books l' e.events d' c₂.end) e.stop (state_of e.session o' q')
      (c₂.does us (stays T) (books l 0 d 0) (fresh-books l d) (ap (ends None T) (write-none us (books l 0 d 0)))))

-- ---- the code

pub ready_code : (status : HostStatus) (mode : ℕ) (r : Result ReceiveMode Refusal) → ReadsMode mode r → wrong_code (is_ready status mode) ≡ is_err r
unfolding wrong_code
ready_code status mode (Ok m) h = le-ltb 4 mode h.0
ready_code status mode (Err x) h = lt-ltb 4 mode h.1
