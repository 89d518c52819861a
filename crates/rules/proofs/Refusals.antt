-- "A refusal returns its number, lists nothing and changes nothing, except": a call that is refused by no number that document 01 excepts leaves the
-- state as it was and lists nothing. Assumes nothing.
use Rattle.std.specs.Prelude.{if◌then◌else◌}
use mathlib.Core.Path.{◌≡◌, refl, ap}
use mathlib.Core.Bool.{Bool, true, false, not, ◌&&◌}
use mathlib.Core.List.{List, []}
use mathlib.Core.Logic.{◌⊎◌, inl, inr}
use mathlib.Core.Option.{Option, none, some}
use Prim.Native.Nat.{ℕ}
use lib.Dec.{leb, ltb, eqb}
use lib.Ieee.{Float}
use borrow.Author.Tests.{leb-true, le-ltb, not-true}
use Rattle.rules.specs.declared.HostStatus.{HostStatus}
use Rattle.rules.specs.declared.Setup.{Setup}
use Rattle.rules.specs.declared.Setup.TheVariants.{None, Waiting, Started, Retired}
use Rattle.rules.specs.declared.Terms.{Terms}
use Rattle.rules.specs.declared.PreparedCommit.{PreparedCommit}
use Rattle.rules.specs.declared.Refusal.{Refusal}
use Rattle.rules.specs.declared.Refusal.TheVariants.{NumbersExhausted, UnackedFull}
use Rattle.rules.specs.declared.Answer.{Answer}
use Rattle.rules.specs.declared.Answer.TheVariants.{Done, Number, Flag}
use Rattle.rules.specs.Answers.{refusal_number, refused_by}
use Rattle.rules.specs.Lists.{Bytes, empty, ◌∈◌}
use Rattle.rules.specs.Limits.{active}
use Rattle.rules.specs.State.{Frame, Handoff, State, mode_is}
use Rattle.rules.specs.Clock.{at_limit}
use Rattle.rules.specs.Events.{Event}
use Rattle.rules.specs.Progress.{Progress, goes, stops, stays, halts, listing, ◌then◌, request, failing, forgiven, Outcome, outcome, answers, ◌refuses◌when◌else◌, ◌fails◌when◌else◌}
use Rattle.rules.specs.Sending.{exhausted, no_room, allocate, send}
use Rattle.rules.specs.Setup.{is_none, rejecting, reject_session, waiting_with, not_first, accept, reject, prepare_in, prepare_channel, retire}
use Rattle.rules.specs.Receiving.{too_long, too_far, past_last, acks_full, drain, receive, receive_data, queue_tests, joins_queue, mode_of, drop_obsolete, consumer_ready}
use Rattle.rules.specs.Acks.{out_of_range, acknowledge, acknowledge_handoff, notify_acknowledged, receive_ack, receive_keepalive, send_handoff, report_data, retries_full, report_ack, report}
use Rattle.rules.specs.Commits.{prepare_commit, past_last_number, persist_by, release_by, notify_committed, complete_commit}
use Rattle.rules.specs.Replay.{too_soon, connectivity, fetch}
use Rattle.rules.specs.Handoff.{Command, inconsistent, not_held, validate, differs, handing_off, channel_command, starting, command_size, command}
use Rattle.rules.specs.Start.{Reliable, good_record, handoff_size, too_late, restored, agrees, restore_terminal, restore}
use Rattle.rules.specs.Buffers.{queue_end, queue_reach}
use Rattle.rules.specs.Calls.{Call, sends, gets_data, gets_ack, gets_keepalive, is_ready, accepts, rejects, prepares_channel, commands, prepares, completes, connects, reports, fetches, retires, restores, step}
use Rattle.rules.specs.Refusals.{excepted}
use Rattle.rules.proofs.Lists.{if_rule, every_true}
use Rattle.rules.proofs.Stops.{Small, Fine, receives}

-- ---- what is under way, and goes on

abbrev On : Progress → Type 0
On (goes t es) = Unit {0}
On (stops r t es) = ⊥

on-listing : (es : List Event) (p : Progress) → On p → On (listing es p)
on-listing es (goes t fs) h = tt
on-listing es (stops r t fs) h = h

on_then : (p : Progress) (f : State → Progress) → On p → ((t : State) → On (f t)) → On (p then f)
on_then (goes t es) f h k = on-listing es (f t) (k t)
on_then (stops r t es) f h k = absurd h

on-request : (t : State) → On (request t)
unfolding request
on-request t = tt

on-forgiven : (p : Progress) → On (forgiven p)
unfolding forgiven
on-forgiven (goes t es) = tt
on-forgiven (stops r t es) = tt

-- ---- a call on state s, refused by none of some numbers

module _ (except : List ℕ) (s : State) where
  -- it changes nothing and lists nothing
  abbrev Plain : Outcome → Type 0
  Plain o = (refused_by o.answer ≡ 0 → ⊥) → (refused_by o.answer ∈ except → ⊥) → o ≡ outcome s o.answer []

  -- under way: it stops by one of these, or where it began
  abbrev Halts : Progress → Type 0
  Halts (goes t es) = Unit {0}
  Halts (stops r t es) = (refusal_number r ∈ except) ⊎ (stops r t es ≡ halts r s)

  turns : (r : Refusal) (b : Bool) (o : Outcome) → Plain o → Plain (s refuses r when b else o)
  turns r true o h = λ k m. refl
  turns r false o h = h

  breaks : (r : Refusal) (b : Bool) (o : Outcome) → refusal_number r ∈ except → Plain o → Plain (s fails r when b else o)
  breaks r true o e h = λ k m. absurd (m e)
  breaks r false o e h = h

  -- no refusal
  gives : (t : State) (a : Answer) (es : List Event) → refused_by a ≡ 0 → Plain (outcome t a es)
  gives t a es e k m = absurd (k e)

  comes : (a : Answer) (p : Progress) → refused_by a ≡ 0 → Halts p → Plain (answers a p)
  comes a (goes t es) z h k m = absurd (k z)
  comes a (stops r t es) z (inl e) k m = absurd (m e)
  comes a (stops r t es) z (inr e) k m = ap (answers a) e

  on-halts : (p : Progress) → On p → Halts p
  on-halts (goes t es) h = tt
  on-halts (stops r t es) h = absurd h

  runs : (a : Answer) (p : Progress) → refused_by a ≡ 0 → On p → Plain (answers a p)
  runs a p z h = comes a p z (on-halts p h)

  halts_then : (p : Progress) (f : State → Progress) → Halts p → ((t : State) → On (f t)) → Halts (p then f)
  halts_then (goes t es) f h k = on-halts (listing es (f t)) (on-listing es (f t) (k t))
  halts_then (stops r t es) f h k = h

  halts-allocate : (b : Bytes) (d : ℕ) (t : State) → Halts (halts NumbersExhausted t) → Halts (halts UnackedFull t) → Halts (allocate b d t)
  unfolding allocate
  halts-allocate b d t x y = if_rule Halts (exhausted t) _ _ (λ e. x) (λ e. if_rule Halts (no_room b t) _ _ (λ g. y) (λ g. tt))

  -- with the state as it was
  allocates : (b : Bytes) (d : ℕ) → Halts (allocate b d s)
  allocates b d = halts-allocate b d s (inr refl) (inr refl)

-- ---- data: past its checks it is refused by what is excepted, or not at all

module _ (status : HostStatus) (f : Frame) (s : State) where
  abbrev by_data : List ℕ
  by_data = excepted (gets_data status f)

  told : (p : Progress) → Fine status f p → (refused_by (answers (Flag true) (failing p)).answer ≡ 0 → ⊥)
      → (refused_by (answers (Flag true) (failing p)).answer ∈ by_data → ⊥) → ⊥
  unfolding failing
  told (goes t es) h k m = k refl
  told (stops r t es) h k m = m h

  data_plain : Small s → Plain by_data s (receive_data status f s)
  unfolding receive_data
  data_plain h =
      turns by_data s _ (ltb 2 f.kind) _
      (turns by_data s _ (at_limit s) _
      (breaks by_data s _ (too_long f s) _ (inl refl)
      (breaks by_data s _ (too_far f s) _ (inr (inl refl))
      (turns by_data s _ (past_last f s) _
      (turns by_data s _ (acks_full f.number s) _ (λ k m. absurd (told (receive status f s) (receives status f s h) k m)))))))

-- ---- the other calls

prepare_plain : (x : Setup) (terms : Terms) (s : State) → Plain [] s (prepare_in x terms s)
prepare_plain None terms s = gives [] s _ Done [] refl
prepare_plain (Waiting t) terms s = gives [] s _ Done [] refl
prepare_plain Started terms s = λ k m. refl
prepare_plain Retired terms s = λ k m. refl

handoff_plain : (o : Option Handoff) (n : ℕ) (s t : State) → Plain [] s (send_handoff o n t)
handoff_plain none n s t = gives [] s t Done [] refl
handoff_plain (some h) n s t = if_rule (Plain [] s) (eqb h.number n) _ _ (λ e. gives [] s _ Done _ refl) (λ e. gives [] s _ Done [] refl)

report_data_plain : (b : Bool) (n : ℕ) (s : State) → Plain [] s (report_data b n s)
report_data_plain true n s = handoff_plain s.stage.handoff n s _
report_data_plain false n s = gives [] s s Done [] refl

report_ack_plain : (b : Bool) (n : ℕ) (s : State) → Plain [] s (report_ack b n s)
report_ack_plain true n s = gives [] s _ Done [] refl
report_ack_plain false n s = turns [] s _ (retries_full n s) _ (gives [] s _ Done [] refl)

on_notify : (b : Bool) (s : State) → On (notify_committed b s)
on_notify true s = tt
on_notify false s = tt

complete_plain : (c : PreparedCommit) (b : Bool) (s : State) → Plain [] s (complete_commit c b s)
unfolding complete_commit release_by
complete_plain c b s =
    turns [] s _ (past_last_number c) _
    (runs [] s Done (release_by c (persist_by b c s) then notify_committed b) refl
    (on_then (release_by c (persist_by b c s)) (notify_committed b)
    (if_rule On (leb c.generation (persist_by b c s).clock.released) _ _ (λ e. tt) (λ e. tt))
    (on_notify b)))

module _ (n : ℕ) (s : State) where
  abbrev by_ack : List ℕ
  by_ack = excepted (gets_ack n)

  ack_plain : Plain by_ack s (receive_ack n s)
  unfolding receive_ack notify_acknowledged
  ack_plain =
      turns by_ack s _ (at_limit s) _
      (breaks by_ack s _ (out_of_range n s) _ (inl refl)
      (runs by_ack s (Flag true) (request (acknowledge n s) then acknowledge_handoff n then notify_acknowledged n) refl
      (on_then (request (acknowledge n s) then acknowledge_handoff n) (notify_acknowledged n)
      (on_then (request (acknowledge n s)) (acknowledge_handoff n) (on-request (acknowledge n s)) (λ t. tt)) (λ t. tt))))

accept_plain : (terms : Terms) (b : Bytes) (s : State) → Plain [] s (accept terms b s)
unfolding accept
accept_plain terms b s =
    turns [] s _ (at_limit s) _
    (turns [] s _ (not (is_none s.stage.setup)) _
    (turns [] s _ (not_first terms s) _
    (comes [] s Done ((if terms.initiator then allocate b active s else stays s) then waiting_with terms) refl
    (halts_then [] s (if terms.initiator then allocate b active s else stays s) (waiting_with terms)
    (if_rule (Halts [] s) terms.initiator _ _ (λ e. allocates [] s b active) (λ e. tt)) (λ t. tt)))))

connectivity_plain : (event : ℕ) (now : Float) (forced : Bool) (s : State) → Plain [] s (connectivity event now forced s)
unfolding connectivity
connectivity_plain event now forced s =
    turns [] s _ (not (leb 1 event && leb event 5)) _
    (if_rule (Plain [] s) (leb event 3) _ _ (λ e. gives [] s s (Flag true) [] refl)
    (λ e. if_rule (Plain [] s) (empty s.outbox.unacked) _ _ (λ e. gives [] s s (Flag true) [] refl)
    (λ e. if_rule (Plain [] s) (not forced && too_soon now s) _ _ (λ e. gives [] s s (Flag false) [] refl) (λ e. gives [] s _ (Flag true) _ refl))))

-- ---- commands: a restoring one has left setup started

module _ (b : Bool) (c : Option Command) where
  abbrev by_command : List ℕ
  by_command = excepted (commands b c)

held-halts : (h : Handoff) (c : Option Command) (s t : State) → Halts (by_command true c) s (validate h t)
unfolding validate
held-halts h c s t =
    if_rule (Halts (by_command true c) s) (inconsistent h t) _ _ (λ e. inl (inr (inr (inr (inr (inr (inl refl)))))))
    (λ e. if_rule (Halts (by_command true c) s) (not_held h t) _ _ (λ g. inl (inr (inr (inr (inr (inr (inr (inl refl)))))))) (λ g. tt))

command-halts : (b : Bool) (c : Option Command) (h : Option Handoff) (s : State) → Halts (by_command b c) s (channel_command b c h (starting b s))
unfolding channel_command
command-halts true none none s = tt
command-halts true none (some h) s = inl (inr (inr (inl refl)))
command-halts true (some c) none s =
    halts_then (by_command true (some c)) s (allocate c.body s.stage.disposition (starting true s)) (handing_off c s.outbox.next)
    (halts-allocate (by_command true (some c)) s c.body s.stage.disposition (starting true s) (inl (inl refl)) (inl (inr (inl refl)))) (λ t. tt)
command-halts true (some c) (some h) s =
    if_rule (Halts (by_command true (some c)) s) (differs c h) _ _ (λ e. inl (inr (inr (inr (inr (inl refl)))))) (λ e. held-halts h (some c) s _)
command-halts false none none s = tt
command-halts false none (some h) s = tt
command-halts false (some c) none s =
    halts_then [] s (allocate c.body s.stage.disposition s) (handing_off c s.outbox.next) (allocates [] s c.body s.stage.disposition) (λ t. tt)
command-halts false (some c) (some h) s = inr refl

command_plain : (b : Bool) (c : Option Command) (s : State) → Plain (by_command b c) s (command b c s)
unfolding command
command_plain b c s =
    turns (by_command b c) s _ (at_limit s) _
    (turns (by_command b c) s _ (ltb 4096 (command_size c)) _
    (comes (by_command b c) s Done (channel_command b c s.stage.handoff (starting b s) then request) refl
    (halts_then (by_command b c) s (channel_command b c s.stage.handoff (starting b s)) request (command-halts b c s.stage.handoff s) on-request)))

module _ (r : Reliable) (h : Option Handoff) (s : State) where
  abbrev by_restore : List ℕ
  by_restore = excepted (restores r h)

  restore_plain : Plain by_restore s (restore r h s)
  unfolding restore restore_terminal
  restore_plain =
      turns by_restore s _ (ltb 4 r.disposition) _
      (turns by_restore s _ (not (good_record r)) _
      (turns by_restore s _ (ltb 4096 (handoff_size h)) _
      (turns by_restore s _ (too_late s) _
      (comes by_restore s Done (restore_terminal h (restored r s)) refl
      (if_rule (Halts by_restore s) (agrees (restored r s).stage.handoff h) _ _ (λ e. tt) (λ e. inl (inl refl)))))))

-- ---- every call

pub refused_plainly : (c : Call) (s : State) → Small s → (refused_by (step c s).answer ≡ 0 → ⊥) → (refused_by (step c s).answer ∈ excepted c → ⊥)
    → step c s ≡ outcome s (step c s).answer []
unfolding step send reject prepare_channel retire receive_keepalive consumer_ready prepare_commit report fetch
refused_plainly (sends b) s h =
    turns [] s _ (at_limit s) _
    (comes [] s (Number s.outbox.next) (allocate b s.stage.disposition s then request) refl
    (halts_then [] s (allocate b s.stage.disposition s) request (allocates [] s b s.stage.disposition) on-request))
refused_plainly (gets_data status f) s h = data_plain status f s h
refused_plainly (gets_ack n) s h = ack_plain n s
refused_plainly gets_keepalive s h = gives [] s s (Flag true) _ refl
refused_plainly (is_ready status mode) s h =
    turns [] s _ (ltb 4 mode) _
    (turns [] s _ (at_limit s) _
    (runs [] s Done (forgiven (drop_obsolete (mode_is (mode_of mode) s) then drain status)) refl (on-forgiven _)))
refused_plainly (accepts terms b) s h = accept_plain terms b s
refused_plainly rejects s h =
    turns [] s _ (at_limit s) _
    (comes [] s Done (reject_session s then request) refl (halts_then [] s (reject_session s) request (allocates [] s s.fixed.reject 4) on-request))
refused_plainly (prepares_channel terms) s h = prepare_plain s.stage.setup terms s
refused_plainly (commands b c) s h = command_plain b c s
refused_plainly prepares s h = λ k m. refl
refused_plainly (completes c b) s h = complete_plain c b s
refused_plainly (connects event now forced) s h = connectivity_plain event now forced s
refused_plainly (reports what n b) s h =
    turns [] s _ (ltb 1 what) _
    (if_rule (Plain [] s) (eqb what 0) _ _ (λ e. report_data_plain b n s) (λ e. report_ack_plain b n s))
refused_plainly (fetches n) s h = λ k m. refl
refused_plainly (retires retain) s h =
    if_rule (Plain [] s) (retain && rejecting s) _ _ (λ e. gives [] s _ (Flag true) [] refl) (λ e. gives [] s _ (Flag false) [] refl)
refused_plainly (restores r k) s h = restore_plain r k s

-- ---- and no body reaches further in the queue store

-- data that joins the queue passed all its checks
joins_not : (status : HostStatus) (f : Frame) (s : State) → Small s → (refused_by (receive_data status f s).answer ≡ 0 → ⊥)
    → (refused_by (receive_data status f s).answer ∈ excepted (gets_data status f) → ⊥) → joins_queue status f s ≡ true → ⊥
unfolding joins_queue receive_data
joins_not status f s h k m e =
    let t = every_true (queue_tests status f s) e in
    let u : ltb 2 f.kind ≡ false = le-ltb 2 f.kind (leb-true f.kind 2 t.0) in
    let q : receive_data status f s ≡ answers (Flag true) (failing (receive status f s)) =
    rw (
      u,
      not-true (at_limit s) t.1.0,
      not-true (too_long f s) t.1.1.0,
      not-true (too_far f s) t.1.1.1.1.0,
      not-true (past_last f s) t.1.1.1.1.1.0,
      not-true (acks_full f.number s) t.1.1.1.1.1.1.0,
    ) in
    told status f s (receive status f s) (receives status f s h) (rw q at k) (rw q at m)

pub refused_reach : (c : Call) (s : State) → Small s → (refused_by (step c s).answer ≡ 0 → ⊥) → (refused_by (step c s).answer ∈ excepted c → ⊥)
    → queue_reach c s ≡ queue_end s
unfolding step queue_reach
refused_reach (gets_data status f) s h k m = if_rule (λ (n : ℕ). n ≡ queue_end s) (joins_queue status f s) _ _ (λ e. absurd (joins_not status f s h k m e)) (λ e. refl)
refused_reach (sends b) s h k m = refl
refused_reach (gets_ack n) s h k m = refl
refused_reach gets_keepalive s h k m = refl
refused_reach (is_ready status mode) s h k m = refl
refused_reach (accepts terms b) s h k m = refl
refused_reach rejects s h k m = refl
refused_reach (prepares_channel terms) s h k m = refl
refused_reach (commands b c) s h k m = refl
refused_reach prepares s h k m = refl
refused_reach (completes c b) s h k m = refl
refused_reach (connects event now forced) s h k m = refl
refused_reach (reports what n b) s h k m = refl
refused_reach (fetches n) s h k m = refl
refused_reach (retires retain) s h k m = refl
refused_reach (restores r x) s h k m = refl
