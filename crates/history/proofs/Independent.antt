-- What a call does depends on no body in a store that it does not take: of the queue's frames, and of the unacked messages, only on what the session's
-- records say. Assumes nothing.
use Rattle.std.specs.Prelude.{if◌then◌else◌}
use mathlib.Core.Path.{◌≡◌, refl, sym, ap, ◌∙◌, subst}
use mathlib.Core.Bool.{Bool, true, false, not, ◌&&◌, true≢false}
use mathlib.Core.List.{List, [], ◌∷◌, ◌++◌, map}
use mathlib.Core.Option.{Option, none, some}
use Prim.Native.Nat.{ℕ, suc, ◌+◌}
use native.Mathlib.Omega.{arith}
use lib.ListN.{length, replicate, length-replicate}
use lib.Dec.{leb, ltb, eqb}
use lib.Ieee.{Float}
use Rattle.rules.specs.declared.PreparedCommit.{PreparedCommit}
use Rattle.rules.specs.declared.Terms.{Terms}
use Rattle.rules.specs.declared.Setup.{Setup}
use Rattle.rules.specs.declared.Setup.TheVariants.{None, Waiting, Started, Retired}
use Rattle.rules.specs.declared.Refusal.{Refusal}
use Rattle.rules.specs.declared.Answer.{Answer}
use Rattle.rules.specs.declared.Answer.TheVariants.{Done}
use Rattle.rules.specs.Lists.{Bytes, empty, kept, before}
use Rattle.rules.specs.State.{Frame, Unacked, Handoff, State, unacked_is, queue_is, is_number, start_of}
use Rattle.rules.specs.Clock.{at_limit}
use Rattle.rules.specs.Events.{Event, commit_requested, message, acknowledged, rejection_acknowledged, keepalive, committed, failure, send_data, send_ack, answer_ack, words_of, handed, listed}
use Rattle.rules.specs.Progress.{Progress, goes, stops, stays, listing, ◌then◌, request, Outcome, outcome, answers, ◌refuses◌when◌else◌}
use Rattle.rules.specs.Sending.{exhausted, no_room, numbered, allocate, send}
use Rattle.rules.specs.Setup.{is_none, waiting_with, not_first, accept, reject, prepare_in, prepare_channel}
use Rattle.rules.specs.Acks.{sent, receive_keepalive, send_handoff, report_data, retries_full, report_ack, report}
use Rattle.rules.specs.Commits.{prepare_commit, releases, release, releases_ack, after_release, data_frame, released_frames, release_by, persist_by, past_last_number, notify_committed, complete_commit}
use Rattle.rules.specs.Replay.{not_pending, replay, too_soon, connectivity, fetch}
use Rattle.rules.specs.Handoff.{Command, inconsistent, not_held, validate, differs, handing_off, channel_command, starting, command_size, command}
use Rattle.rules.specs.Start.{Reliable, good_record, handoff_size, too_late, restored, agrees, restore_terminal, restore}
use Rattle.rules.specs.Calls.{Call, sends, gets_data, gets_ack, gets_keepalive, is_ready, accepts, rejects, prepares_channel, commands, prepares, completes, connects, reports, fetches, retires, restores, step}
use Rattle.rules.specs.Buffers.{taken_by}
use Rattle.outbox.specs.declared.Unacked as Code
use Rattle.outbox.specs.View.{record_u}
use Rattle.queue.specs.View.{record_q}
use Rattle.peer_session.specs.View.{encode}
use Rattle.rules.proofs.RangeLaws.{map-append}

-- ---- the queue's frames: the call takes whatever they are along

module _ (fs : List Frame) where
  abbrev pub qs : State → State
  qs s = queue_is fs s

  pub data Along : Outcome → Outcome → Type 0 where
    along : {s : State} {a : Answer} {es : List Event} → Along (outcome s a es) (outcome (queue_is fs s) a es)

  data Going : Progress → Progress → Type 0 where
    going : {s : State} {es : List Event} → Going (goes s es) (goes (queue_is fs s) es)
    stopping : {r : Refusal} {s : State} {es : List Event} → Going (stops r s es) (stops r (queue_is fs s) es)

  answers-q : {p q : Progress} (a : Answer) → Going p q → Along (answers a p) (answers a q)
  answers-q a going = along
  answers-q a stopping = along

  refuses-q : {o u : Outcome} (s : State) (r : Refusal) (b : Bool) → Along o u → Along (s refuses r when b else o) (qs s refuses r when b else u)
  refuses-q s r true h = along
  refuses-q s r false h = h

  listing-q : {p q : Progress} (es : List Event) → Going p q → Going (listing es p) (listing es q)
  listing-q es going = going
  listing-q es stopping = stopping

  then_q : {p q : Progress} (on : State → Progress) → Going p q → ((u : State) → Going (on u) (on (qs u))) → Going (p then on) (q then on)
  then_q on (going {s = s} {es = es}) h = listing-q es (h s)
  then_q on stopping h = stopping

  if_q : {p r q u : Progress} (b : Bool) → Going p q → Going r u → Going (if b then p else r) (if b then q else u)
  if_q true h k = h
  if_q false h k = k

  if_qo : {o v w u : Outcome} (b : Bool) → Along o w → Along v u → Along (if b then o else v) (if b then w else u)
  if_qo true h k = h
  if_qo false h k = k

  allocate-q : (b : Bytes) (d : ℕ) (s : State) → Going (allocate b d s) (allocate b d (qs s))
  unfolding allocate numbered
  allocate-q b d s = if_q (exhausted s) stopping (if_q (no_room b s) stopping going)

  request-q : (s : State) → Going (request s) (request (qs s))
  unfolding request
  request-q s = going

  send-q : (b : Bytes) (s : State) → Along (send b s) (send b (qs s))
  unfolding send
  send-q b s = refuses-q s _ (at_limit s) (answers-q _ (then_q request (allocate-q b s.stage.disposition s) request-q))

  accept-q : (terms : Terms) (b : Bytes) (s : State) → Along (accept terms b s) (accept terms b (qs s))
  unfolding accept
  accept-q terms b s =
      refuses-q s _ (at_limit s)
      (refuses-q s _ (not (is_none s.stage.setup))
      (refuses-q s _ (not_first terms s) (answers-q Done (then_q (waiting_with terms) (if_q terms.initiator (allocate-q b 1 s) going) (λ u. going)))))

  reject-q : (s : State) → Along (reject s) (reject (qs s))
  unfolding reject
  reject-q s = refuses-q s _ (at_limit s) (answers-q Done (then_q request (allocate-q s.fixed.reject 4 s) request-q))

  channel_q : (x : Setup) (terms : Terms) (s : State) → Along (prepare_in x terms s) (prepare_in x terms (qs s))
  channel_q None terms s = along
  channel_q (Waiting t) terms s = along
  channel_q Started terms s = along
  channel_q Retired terms s = along

  commanding-q : (restoring : Bool) (c : Option Command) (h : Option Handoff) (s : State) → Going (channel_command restoring c h s) (channel_command restoring c h (qs s))
  unfolding channel_command validate
  commanding-q restoring none none s = going
  commanding-q restoring none (some h) s = if_q restoring stopping going
  commanding-q restoring (some c) none s = then_q (handing_off c s.outbox.next) (allocate-q c.body s.stage.disposition s) (λ u. going)
  commanding-q restoring (some c) (some h) s =
      if_q (not restoring) stopping (if_q (differs c h) stopping (if_q (inconsistent h s) stopping (if_q (not_held h s) stopping going)))

  starting-q : (restoring : Bool) (c : Option Command) (h : Option Handoff) (s : State) → Going (channel_command restoring c h (starting restoring s)) (channel_command restoring c h (starting restoring (qs s)))
  starting-q true c h s = commanding-q true c h (starting true s)
  starting-q false c h s = commanding-q false c h s

  command-q : (restoring : Bool) (c : Option Command) (s : State) → Along (command restoring c s) (command restoring c (qs s))
  unfolding command
  command-q restoring c s =
      refuses-q s _ (at_limit s)
      (refuses-q s _ (ltb 4096 (command_size c)) (answers-q Done (then_q request (starting-q restoring c s.stage.handoff s) request-q)))

  release-q : (c : PreparedCommit) (s : State) → Going (release_by c s) (release_by c (qs s))
  unfolding release_by after_release released_frames
  release-q c s = if_q (leb c.generation s.clock.released) going going

  persist_q : (p : Bool) (c : PreparedCommit) (s : State) → Going (release_by c (persist_by p c s)) (release_by c (persist_by p c (qs s)))
  persist_q true c s = release-q c (persist_by true c s)
  persist_q false c s = release-q c s

  notify_q : (p : Bool) (s : State) → Going (notify_committed p s) (notify_committed p (qs s))
  notify_q true s = going
  notify_q false s = going

  complete-q : (c : PreparedCommit) (p : Bool) (s : State) → Along (complete_commit c p s) (complete_commit c p (qs s))
  unfolding complete_commit
  complete-q c p s = refuses-q s _ (past_last_number c) (answers-q Done (then_q (notify_committed p) (persist_q p c s) (notify_q p)))

  connect_q : (event : ℕ) (now : Float) (forced : Bool) (s : State) → Along (connectivity event now forced s) (connectivity event now forced (qs s))
  unfolding connectivity replay
  connect_q event now forced s =
      refuses-q s _ (not (leb 1 event && leb event 5))
      (if_qo (leb event 3) along (if_qo (empty s.outbox.unacked) along (if_qo (not forced && too_soon now s) along along)))

  handoff-q : (h : Option Handoff) (n : ℕ) (s : State) → Along (send_handoff h n s) (send_handoff h n (qs s))
  handoff-q none n s = along
  handoff-q (some h) n s = if_qo (eqb h.number n) along along

  report_data_q : (a : Bool) (n : ℕ) (s : State) → Along (report_data a n s) (report_data a n (qs s))
  report_data_q true n s = handoff-q s.stage.handoff n (unacked_is (map (sent n) s.outbox.unacked) s)
  report_data_q false n s = along

  report_ack_q : (a : Bool) (n : ℕ) (s : State) → Along (report_ack a n s) (report_ack a n (qs s))
  report_ack_q true n s = along
  report_ack_q false n s = refuses-q s _ (retries_full n s) along

  report-q : (what n : ℕ) (a : Bool) (s : State) → Along (report what n a s) (report what n a (qs s))
  unfolding report
  report-q what n a s = refuses-q s _ (ltb 1 what) (if_qo (eqb what 0) (report_data_q a n s) (report_ack_q a n s))

  restore-q : (r : Reliable) (h : Option Handoff) (s : State) → empty fs ≡ empty s.inbox.queue → Along (restore r h s) (restore r h (qs s))
  unfolding restore restore_terminal restored
  restore-q r h s e =
      rw e
      (refuses-q s _ (ltb 4 r.disposition)
      (refuses-q s _ (not (good_record r))
      (refuses-q s _ (ltb 4096 (handoff_size h))
      (refuses-q s _ (too_late s) (answers-q Done (if_q (agrees s.stage.handoff h) going stopping))))))

  pub step-q : (c : Call) (s : State) → (taken_by c).queue ≡ false → empty fs ≡ empty s.inbox.queue → Along (step c s) (step c (qs s))
  unfolding taken_by step receive_keepalive prepare_channel prepare_commit fetch
  step-q (sends b) s e f = send-q b s
  step-q (gets_data status g) s e f = absurd (true≢false e)
  step-q (gets_ack n) s e f = absurd (true≢false e)
  step-q gets_keepalive s e f = along
  step-q (is_ready status mode) s e f = absurd (true≢false e)
  step-q (accepts terms b) s e f = accept-q terms b s
  step-q rejects s e f = reject-q s
  step-q (prepares_channel terms) s e f = channel_q s.stage.setup terms s
  step-q (commands restoring c) s e f = command-q restoring c s
  step-q prepares s e f = along
  step-q (completes c persisted) s e f = complete-q c persisted s
  step-q (connects event now forced) s e f = connect_q event now forced s
  step-q (reports what n accepted) s e f = report-q what n accepted s
  step-q (fetches n) s e f = along
  step-q (retires retain) s e f = absurd (true≢false e)
  step-q (restores r h) s e f = restore-q r h s f

-- ---- the unacked bodies: every one as if it were 0

abbrev blank : Bytes → Bytes
blank b = replicate (length b) 0

abbrev pub dull : Unacked → Unacked
dull u = record { number = u.number; body = blank u.body; pending = u.pending; unsent = u.unsent }

abbrev pub ds : State → State
ds s = unacked_is (map dull s.outbox.unacked) s

abbrev pub dull_event : Event → Event
dull_event commit_requested = commit_requested
dull_event (message n b) = message n b
dull_event (acknowledged n) = acknowledged n
dull_event rejection_acknowledged = rejection_acknowledged
dull_event keepalive = keepalive
dull_event committed = committed
dull_event (failure r) = failure r
dull_event (send_data n b) = send_data n (blank b)
dull_event (send_ack n) = send_ack n
dull_event (answer_ack n) = answer_ack n

pub data Dulled : Outcome → Outcome → Type 0 where
  dulled : {s t : State} {a : Answer} {es fs : List Event} → t ≡ ds s → fs ≡ map dull_event es → Dulled (outcome s a es) (outcome t a fs)

data Dulling : Progress → Progress → Type 0 where
  dulling : {s t : State} {es fs : List Event} → t ≡ ds s → fs ≡ map dull_event es → Dulling (goes s es) (goes t fs)

refuses-d : {o u : Outcome} (s : State) (r : Refusal) (b : Bool) → Dulled o u → Dulled (s refuses r when b else o) (ds s refuses r when b else u)
refuses-d s r true h = dulled refl refl
refuses-d s r false h = h

if_do : {o v w u : Outcome} (b : Bool) → Dulled o w → Dulled v u → Dulled (if b then o else v) (if b then w else u)
if_do true h k = h
if_do false h k = k

map-map : {A : Type 0} (f g f' g' : A → A) → ((x : A) → f (g x) ≡ f' (g' x)) → (l : List A) → map f (map g l) ≡ map f' (map g' l)
map-map f g f' g' h [] = refl
map-map f g f' g' h (x ∷ l) = λ i. h x i ∷ map-map f g f' g' h l i

release_dull : (n : ℕ) (u : Unacked) → release n (dull u) ≡ dull (release n u)
release_dull n u = go (releases n u)
  where
    go : (b : Bool) → ◌≡◌ {A = Unacked} (if b then record { number = u.number; body = blank u.body; pending = false; unsent = true } else dull u) (dull (if b then record { number = u.number; body = u.body; pending = false; unsent = true } else u))
    go true = refl
    go false = refl

sent_dull : (n : ℕ) (u : Unacked) → sent n (dull u) ≡ dull (sent n u)
sent_dull n u = go (is_number n u)
  where
    go : (b : Bool) → ◌≡◌ {A = Unacked} (if b then record { number = u.number; body = blank u.body; pending = u.pending; unsent = false } else dull u) (dull (if b then record { number = u.number; body = u.body; pending = u.pending; unsent = false } else u))
    go true = refl
    go false = refl

frames_dull : (p : Unacked → Bool) → ((u : Unacked) → p (dull u) ≡ p u) → (us : List Unacked) → map data_frame (kept p (map dull us)) ≡ map dull_event (map data_frame (kept p us))
unfolding kept
frames_dull p h [] = refl
frames_dull p h (u ∷ us) = go (p (dull u)) (p u) (h u) (frames_dull p h us)
  where
    go : (b d : Bool) → b ≡ d → map data_frame (kept p (map dull us)) ≡ map dull_event (map data_frame (kept p us))
        → map data_frame (if b then (dull u ∷ kept p (map dull us)) else kept p (map dull us)) ≡ map dull_event (map data_frame (if d then (u ∷ kept p us) else kept p us))
    go true true e r = ap (λ z. data_frame (dull u) ∷ z) r
    go true false e r = absurd (true≢false e)
    go false true e r = absurd (true≢false (sym e))
    go false false e r = r

acks_dull : (ns : List ℕ) → map send_ack ns ≡ map dull_event (map send_ack ns)
acks_dull [] = refl
acks_dull (n ∷ ns) = ap (λ z. send_ack n ∷ z) (acks_dull ns)

empty_dull : (us : List Unacked) → empty (map dull us) ≡ empty us
empty_dull [] = refl
empty_dull (u ∷ us) = refl

channel_d : (x : Setup) (terms : Terms) (s : State) → Dulled (prepare_in x terms s) (prepare_in x terms (ds s))
channel_d None terms s = dulled refl refl
channel_d (Waiting t) terms s = dulled refl refl
channel_d Started terms s = dulled refl refl
channel_d Retired terms s = dulled refl refl

released-d : (c : PreparedCommit) (s : State) → Dulling (release_by c s) (release_by c (ds s))
unfolding release_by after_release released_frames
released-d c s = go (leb c.generation s.clock.released)
  where
    fs : List Event
    fs = map send_ack (kept (releases_ack c.remote) s.inbox.waiting)

    go : (b : Bool) → Dulling (if b then stays s else goes (after_release c s) (released_frames c s)) (if b then stays (ds s) else goes (after_release c (ds s)) (released_frames c (ds s)))
    go true = dulling refl refl
    go false =
        dulling (ap (λ us. unacked_is us (after_release c s)) (map-map (release c.outbound) dull dull (release c.outbound) (release_dull c.outbound) s.outbox.unacked))
        ((λ i. frames_dull (releases c.outbound) (λ u. refl) s.outbox.unacked i ++ acks_dull (kept (releases_ack c.remote) s.inbox.waiting) i)
        ∙ sym (map-append dull_event (map data_frame (kept (releases c.outbound) s.outbox.unacked)) (map send_ack (kept (releases_ack c.remote) s.inbox.waiting))))

persist_d : (p : Bool) (c : PreparedCommit) (s : State) → Dulling (release_by c (persist_by p c s)) (release_by c (persist_by p c (ds s)))
persist_d true c s = released-d c (persist_by true c s)
persist_d false c s = released-d c s

committed-d : {p q : Progress} (b : Bool) → Dulling p q → Dulled (answers Done (p then notify_committed b)) (answers Done (q then notify_committed b))
committed-d true (dulling {es = es} e f) = dulled e (ap (λ z. z ++ (committed ∷ [])) f ∙ sym (map-append dull_event es (committed ∷ [])))
committed-d false (dulling {es = es} e f) = dulled e (ap (λ z. z ++ []) f ∙ sym (map-append dull_event es []))

complete-d : (c : PreparedCommit) (p : Bool) (s : State) → Dulled (complete_commit c p s) (complete_commit c p (ds s))
unfolding complete_commit
complete-d c p s = refuses-d s _ (past_last_number c) (committed-d p (persist_d p c s))

connect_d : (event : ℕ) (now : Float) (forced : Bool) (s : State) → Dulled (connectivity event now forced s) (connectivity event now forced (ds s))
unfolding connectivity replay
connect_d event now forced s =
    rw (empty_dull s.outbox.unacked)
    (refuses-d s _ (not (leb 1 event && leb event 5))
    (if_do (leb event 3) (dulled refl refl)
    (if_do (empty s.outbox.unacked) (dulled refl refl)
    (if_do (not forced && too_soon now s) (dulled refl refl) (dulled refl (frames_dull not_pending (λ u. refl) s.outbox.unacked))))))

handoff-d : (h : Option Handoff) (n : ℕ) (s t : State) → t ≡ ds s → Dulled (send_handoff h n s) (send_handoff h n t)
handoff-d none n s t e = dulled e refl
handoff-d (some h) n s t e = if_do (eqb h.number n) (dulled (ap (λ z. record { outbox = z.outbox; inbox = z.inbox; clock = z.clock; stage = record { disposition = z.stage.disposition; setup = z.stage.setup; mode = z.stage.mode; handoff = some (record { id = h.id; number = h.number; body = h.body; sent = true; acknowledged = h.acknowledged }); failed = z.stage.failed }; fixed = z.fixed }) e) refl) (dulled e refl)

report_data_d : (a : Bool) (n : ℕ) (s : State) → Dulled (report_data a n s) (report_data a n (ds s))
report_data_d true n s =
    handoff-d s.stage.handoff n (unacked_is (map (sent n) s.outbox.unacked) s) (unacked_is (map (sent n) (map dull s.outbox.unacked)) s)
    (ap (λ us. unacked_is us s) (map-map (sent n) dull dull (sent n) (sent_dull n) s.outbox.unacked))
report_data_d false n s = dulled refl refl

report_ack_d : (a : Bool) (n : ℕ) (s : State) → Dulled (report_ack a n s) (report_ack a n (ds s))
report_ack_d true n s = dulled refl refl
report_ack_d false n s = refuses-d s _ (retries_full n s) (dulled refl refl)

report-d : (what n : ℕ) (a : Bool) (s : State) → Dulled (report what n a s) (report what n a (ds s))
unfolding report
report-d what n a s = refuses-d s _ (ltb 1 what) (if_do (eqb what 0) (report_data_d a n s) (report_ack_d a n s))

keepalive-d : (s : State) → Dulled (receive_keepalive s) (receive_keepalive (ds s))
unfolding receive_keepalive
keepalive-d s = dulled refl (ap (λ z. keepalive ∷ z) (acks_dull s.inbox.retry))

step-d : (c : Call) (s : State) → (taken_by c).outbound ≡ false → Dulled (step c s) (step c (ds s))
unfolding taken_by step prepare_channel prepare_commit
step-d (sends b) s e = absurd (true≢false e)
step-d (gets_data status g) s e = absurd (true≢false e)
step-d (gets_ack n) s e = absurd (true≢false e)
step-d gets_keepalive s e = keepalive-d s
step-d (is_ready status mode) s e = absurd (true≢false e)
step-d (accepts terms b) s e = absurd (true≢false e)
step-d rejects s e = absurd (true≢false e)
step-d (prepares_channel terms) s e = channel_d s.stage.setup terms s
step-d (commands restoring c) s e = absurd (true≢false e)
step-d prepares s e = dulled refl refl
step-d (completes c persisted) s e = complete-d c persisted s
step-d (connects event now forced) s e = connect_d event now forced s
step-d (reports what n accepted) s e = report-d what n accepted s
step-d (fetches n) s e = absurd (true≢false e)
step-d (retires retain) s e = absurd (true≢false e)
step-d (restores r h) s e = absurd (true≢false e)

-- ---- so with other bodies of the same lengths the outcome settles and shows the same

pub record Alike (a b : Outcome) : Type 0 where
  pub session : encode a.state ≡ encode b.state
  pub answer : a.answer ≡ b.answer
  pub words : listed a.state.outbox.unacked 0 a.events ≡ listed b.state.outbox.unacked 0 b.events

encode_dull : (s : State) → encode (ds s) ≡ encode s
unfolding encode
encode_dull s = λ i. record {
  next = s.outbox.next;
  unackeds = lengths s.outbox.unacked i;
  unacked = records s.outbox.unacked i;
  remote = s.inbox.remote;
  released = s.inbox.released;
  queues = length s.inbox.queue;
  queue = map record_q s.inbox.queue;
  waits = length s.inbox.waiting;
  waiting = s.inbox.waiting;
  retries = length s.inbox.retry;
  retry = s.inbox.retry;
  clock = s.clock;
  stage = s.stage;
  handoff_size = handoff_size s.stage.handoff;
  policy = s.fixed.policy;
  reject_size = length s.fixed.reject;
  reject = s.fixed.reject;
}
  where
    lengths : (us : List Unacked) → length (map dull us) ≡ length us
    lengths [] = refl
    lengths (u ∷ us) = ap suc (lengths us)

    records : (us : List Unacked) → map record_u (map dull us) ≡ map record_u us
    records [] = refl
    records (u ∷ us) = λ i. record { number = u.number; len = length-replicate {A = ℕ} (length u.body) 0 i; pending = u.pending; unsent = u.unsent } ∷ records us i

start_dull : (n : ℕ) (us : List Unacked) → start_of n (map dull us) ≡ start_of n us
unfolding start_of before
start_dull n [] = refl
start_dull n (u ∷ us) = λ i. if is_number n u then 0 else (length-replicate {A = ℕ} (length u.body) 0 i + start_dull n us i)

words_dull : (us : List Unacked) (at : ℕ) (e : Event) → words_of (map dull us) at (dull_event e) ≡ words_of us at e
words_dull us at commit_requested = refl
words_dull us at (message n b) = refl
words_dull us at (acknowledged n) = refl
words_dull us at rejection_acknowledged = refl
words_dull us at keepalive = refl
words_dull us at committed = refl
words_dull us at (failure r) = refl
words_dull us at (send_data n b) = λ i. record { code = 8; number = n; start = start_dull n us i; length = length-replicate {A = ℕ} (length b) 0 i }
words_dull us at (send_ack n) = refl
words_dull us at (answer_ack n) = refl

handed_dull : (e : Event) → handed (dull_event e) ≡ handed e
handed_dull commit_requested = refl
handed_dull (message n b) = refl
handed_dull (acknowledged n) = refl
handed_dull rejection_acknowledged = refl
handed_dull keepalive = refl
handed_dull committed = refl
handed_dull (failure r) = refl
handed_dull (send_data n b) = refl
handed_dull (send_ack n) = refl
handed_dull (answer_ack n) = refl

listed_dull : (us : List Unacked) (at : ℕ) (es : List Event) → listed (map dull us) at (map dull_event es) ≡ listed us at es
unfolding listed
listed_dull us at [] = refl
listed_dull us at (e ∷ es) =
    (λ i. words_dull us at e i ∷ listed (map dull us) (at + length (handed_dull e i)) (map dull_event es)) ∙ ap (λ z. words_of us at e ∷ z) (listed_dull us (at + length (handed e)) es)

dulled_alike : {o u : Outcome} → Dulled o u → Alike o u
dulled_alike (dulled {s = s} {es = es} e f) =
    record {
      session = sym (encode_dull s) ∙ ap encode (sym e);
      answer = refl;
      words = sym (listed_dull s.outbox.unacked 0 es) ∙ (λ i. listed (sym e i).outbox.unacked 0 (sym f i));
    }

both_alike : {o u v : Outcome} → Alike o v → Alike u v → Alike o u
both_alike h k = record { session = h.session ∙ sym k.session; answer = h.answer ∙ sym k.answer; words = h.words ∙ sym k.words }

-- an unacked message from its record, its body 0
abbrev undull : Code.Unacked → Unacked
undull r = record { number = r.number; body = replicate r.len 0; pending = r.pending; unsent = r.unsent }

dull_records : (us : List Unacked) → map dull us ≡ map undull (map record_u us)
dull_records [] = refl
dull_records (u ∷ us) = ap (λ z. dull u ∷ z) (dull_records us)

unacked_alike : (c : Call) (s : State) (us : List Unacked) → (taken_by c).outbound ≡ false → map record_u us ≡ map record_u s.outbox.unacked → Alike (step c (unacked_is us s)) (step c s)
unacked_alike c s us e q =
    let d : map dull us ≡ map dull s.outbox.unacked = dull_records us ∙ ap (map undull) q ∙ sym (dull_records s.outbox.unacked) in
    both_alike (subst (λ z. Alike (step c (unacked_is us s)) (step c (unacked_is z s))) d (dulled_alike (step-d c (unacked_is us s) e))) (dulled_alike (step-d c s e))

-- the same of the queue; and all else is the same
pub record Beside (a b : Outcome) : Type 0 where
  pub session : encode a.state ≡ encode b.state
  pub answer : a.answer ≡ b.answer
  pub events : a.events ≡ b.events
  pub outbox : a.state.outbox ≡ b.state.outbox

along_beside : {fs gs : List Frame} {o u v : Outcome} → map record_q fs ≡ map record_q gs → length fs ≡ length gs → Along fs o u → Along gs o v → Beside u v
unfolding encode
along_beside p q (along {s = s}) along = record {
  session = λ i. record {
    next = s.outbox.next;
    unackeds = length s.outbox.unacked;
    unacked = map record_u s.outbox.unacked;
    remote = s.inbox.remote;
    released = s.inbox.released;
    queues = q i;
    queue = p i;
    waits = length s.inbox.waiting;
    waiting = s.inbox.waiting;
    retries = length s.inbox.retry;
    retry = s.inbox.retry;
    clock = s.clock;
    stage = s.stage;
    handoff_size = handoff_size s.stage.handoff;
    policy = s.fixed.policy;
    reject_size = length s.fixed.reject;
    reject = s.fixed.reject;
  };
  answer = refl;
  events = refl;
  outbox = refl;
}

same-empty : (fs gs : List Frame) → length fs ≡ length gs → empty fs ≡ empty gs
same-empty [] [] e = refl
same-empty [] (g ∷ gs) e = absurd (omega (arith, e))
same-empty (f ∷ fs) [] e = absurd (omega (arith, e))
same-empty (f ∷ fs) (g ∷ gs) e = refl

pub queue_beside : (c : Call) (s : State) (fs : List Frame) → (taken_by c).queue ≡ false → map record_q fs ≡ map record_q s.inbox.queue → length fs ≡ length s.inbox.queue → Beside (step c (queue_is fs s)) (step c s)
queue_beside c s fs e p q = along_beside p q (step-q fs c s e (same-empty fs s.inbox.queue q)) (step-q s.inbox.queue c s e refl)

pub beside_alike : {a b : Outcome} → Beside a b → Alike a b
beside_alike h = record { session = h.session; answer = h.answer; words = λ i. listed (h.outbox i).unacked 0 (h.events i) }

pub stores_alike : (c : Call) (s : State) (us : List Unacked) (fs : List Frame) → (taken_by c).outbound ≡ false → (taken_by c).queue ≡ false → map record_u us ≡ map record_u s.outbox.unacked
    → map record_q fs ≡ map record_q s.inbox.queue → length fs ≡ length s.inbox.queue → Alike (step c (queue_is fs (unacked_is us s))) (step c s)
stores_alike c s us fs e f p q r =
    let a = queue_beside c (unacked_is us s) fs f q r in
    let b = unacked_alike c s us e p in
    record {
      session = a.session ∙ b.session;
      answer = a.answer ∙ b.answer;
      words = (beside_alike a).words ∙ b.words;
    }
