-- A call that is not lent a store leaves its bodies as they are. Assumes nothing.
use mathlib.Core.Path.{◌≡◌, refl, ap, ◌∙◌}
use mathlib.Core.Bool.{Bool, true, false, not, ◌&&◌, true≢false}
use mathlib.Core.List.{List, [], ◌∷◌, ◌++◌, map}
use mathlib.Core.Option.{Option, none, some}
use Prim.Native.Nat.{ℕ}
use lib.Dec.{ltb, leb, eqb}
use lib.Ieee.{Float}
use Rattle.rules.specs.declared.PreparedCommit.{PreparedCommit}
use Rattle.rules.specs.declared.Terms.{Terms}
use Rattle.rules.specs.declared.Setup.{Setup}
use Rattle.rules.specs.declared.Setup.TheVariants.{None, Waiting, Started, Retired}
use Rattle.rules.specs.declared.Answer.TheVariants.{Done}
use Rattle.rules.specs.Lists.{packed, empty}
use Rattle.rules.specs.State.{Frame, Unacked, Handoff, State, body_of}
use Rattle.rules.specs.Progress.{◌then◌, Outcome, answers}
use Rattle.rules.specs.Setup.{prepare_in, prepare_channel}
use Rattle.rules.specs.Acks.{sent, receive_keepalive, send_handoff, report_data, retries_full, report_ack, report}
use Rattle.rules.specs.Commits.{prepare_commit, releases, release, after_release, release_by, persist_by, past_last_number, notify_committed, complete_commit}
use Rattle.rules.specs.Replay.{too_soon, connectivity}
use Rattle.rules.specs.Calls.{Call, sends, gets_data, gets_ack, gets_keepalive, is_ready, accepts, rejects, prepares_channel, commands, prepares, completes, connects, reports, fetches, retires, restores, step}
use Rattle.rules.specs.Buffers.{taken_by}
use Rattle.rules.proofs.Lists.{if_rule}
use Rattle.rules.proofs.RawCalls.{refuses_rule}
use Rattle.history.proofs.Independent.{Along, along, step-q}

-- ---- the outbound store

packed-map : (f : Unacked → Unacked) → ((u : Unacked) → (f u).body ≡ u.body) → (us : List Unacked) → packed body_of (map f us) ≡ packed body_of us
unfolding packed
packed-map f e [] = refl
packed-map f e (u ∷ us) = λ i. e u i ++ packed-map f e us i

abbrev Bodies : State → Outcome → Type 0
Bodies s o = packed body_of o.state.outbox.unacked ≡ packed body_of s.outbox.unacked

channel_bodies : (x : Setup) (terms : Terms) (s : State) → Bodies s (prepare_in x terms s)
channel_bodies None terms s = refl
channel_bodies (Waiting t) terms s = refl
channel_bodies Started terms s = refl
channel_bodies Retired terms s = refl

release-body : (n : ℕ) (u : Unacked) → (release n u).body ≡ u.body
release-body n u = if_rule (λ (z : Unacked). z.body ≡ u.body) (releases n u) _ _ (λ e. refl) (λ e. refl)

sent-body : (n : ℕ) (u : Unacked) → (sent n u).body ≡ u.body
sent-body n u = if_rule (λ (z : Unacked). z.body ≡ u.body) (eqb u.number n) _ _ (λ e. refl) (λ e. refl)

complete-bodies : (c : PreparedCommit) (p : Bool) (s : State) → Bodies s (complete_commit c p s)
unfolding complete_commit release_by after_release
complete-bodies c p s =
    refuses_rule (Bodies s) s _ (past_last_number c) _ (λ e. refl) (λ e. go p)
  where
    from : (p : Bool) (t : State) → t.outbox ≡ s.outbox → Bodies s (answers Done (release_by c t then notify_committed p))
    from true t q = if_rule (λ z. Bodies s (answers Done (z then notify_committed true))) (leb c.generation t.clock.released) _ _ (λ e. ap (λ x. packed body_of x.unacked) q) (λ e. packed-map (release c.outbound) (release-body c.outbound) t.outbox.unacked ∙ ap (λ x. packed body_of x.unacked) q)
    from false t q = if_rule (λ z. Bodies s (answers Done (z then notify_committed false))) (leb c.generation t.clock.released) _ _ (λ e. ap (λ x. packed body_of x.unacked) q) (λ e. packed-map (release c.outbound) (release-body c.outbound) t.outbox.unacked ∙ ap (λ x. packed body_of x.unacked) q)

    go : (p : Bool) → Bodies s (answers Done (release_by c (persist_by p c s) then notify_committed p))
    go true = from true (persist_by true c s) refl
    go false = from false s refl

connect_bodies : (event : ℕ) (now : Float) (forced : Bool) (s : State) → Bodies s (connectivity event now forced s)
unfolding connectivity
connect_bodies event now forced s =
    refuses_rule (Bodies s) s _ (not (leb 1 event && leb event 5)) _ (λ e. refl) λ e.
    if_rule (Bodies s) (leb event 3) _ _ (λ e. refl) λ e.
    if_rule (Bodies s) (empty s.outbox.unacked) _ _ (λ e. refl) λ e.
    if_rule (Bodies s) (not forced && too_soon now s) _ _ (λ e. refl) (λ e. refl)

report-bodies : (what n : ℕ) (accepted : Bool) (s : State) → Bodies s (report what n accepted s)
unfolding report
report-bodies what n accepted s =
    refuses_rule (Bodies s) s _ (ltb 1 what) _ (λ e. refl) λ e.
    if_rule (Bodies s) (eqb what 0) _ _ (λ e. data_bodies accepted) (λ e. ack_bodies accepted)
  where
    same : packed body_of (map (sent n) s.outbox.unacked) ≡ packed body_of s.outbox.unacked
    same = packed-map (sent n) (sent-body n) s.outbox.unacked

    handoff-bodies : (h : Option Handoff) (t : State) → packed body_of t.outbox.unacked ≡ packed body_of s.outbox.unacked → Bodies s (send_handoff h n t)
    handoff-bodies none t q = q
    handoff-bodies (some h) t q = if_rule (Bodies s) (eqb h.number n) _ _ (λ e. q) (λ e. q)

    data_bodies : (a : Bool) → Bodies s (report_data a n s)
    data_bodies true = handoff-bodies s.stage.handoff _ same
    data_bodies false = refl

    ack_bodies : (a : Bool) → Bodies s (report_ack a n s)
    ack_bodies true = refl
    ack_bodies false = refuses_rule (Bodies s) s _ (retries_full n s) _ (λ e. refl) (λ e. refl)

pub left-bodies : (c : Call) (s : State) → (taken_by c).outbound ≡ false → Bodies s (step c s)
unfolding taken_by step receive_keepalive prepare_commit prepare_channel
left-bodies (sends b) s e = absurd (true≢false e)
left-bodies (gets_data status f) s e = absurd (true≢false e)
left-bodies (gets_ack n) s e = absurd (true≢false e)
left-bodies gets_keepalive s e = refl
left-bodies (is_ready status mode) s e = absurd (true≢false e)
left-bodies (accepts terms b) s e = absurd (true≢false e)
left-bodies rejects s e = absurd (true≢false e)
left-bodies (prepares_channel terms) s e = channel_bodies s.stage.setup terms s
left-bodies (commands restoring c) s e = absurd (true≢false e)
left-bodies prepares s e = refl
left-bodies (completes c persisted) s e = complete-bodies c persisted s
left-bodies (connects event now forced) s e = connect_bodies event now forced s
left-bodies (reports what n accepted) s e = report-bodies what n accepted s
left-bodies (fetches n) s e = absurd (true≢false e)
left-bodies (retires retain) s e = absurd (true≢false e)
left-bodies (restores r h) s e = absurd (true≢false e)

-- ---- the queue store

along_queue : {fs : List Frame} {o u : Outcome} → Along fs o u → u.state.inbox.queue ≡ fs
along_queue along = refl

pub left-queue : (c : Call) (s : State) → (taken_by c).queue ≡ false → (step c s).state.inbox.queue ≡ s.inbox.queue
left-queue c s e = along_queue (step-q s.inbox.queue c s e refl)
