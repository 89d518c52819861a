-- By which refusals data breaks the receiving off, past its checks: only by those that document 01 excepts. 23 is none of them: a rejection that is sent
-- anew finds nothing unacked, and its body fits an empty store. Assumes nothing.
use mathlib.Core.Path.{◌≡◌, refl}
use mathlib.Core.Bool.{true, false, not, ◌&&◌}
use mathlib.Core.List.{List}
use mathlib.Core.Logic.{inl, inr}
use mathlib.Core.Option.{Option, none, some}
use Prim.Native.Nat.{ℕ, zero, suc, ◌≤◌, ◌+◌}
use native.Mathlib.Omega.{arith}
use lib.ListN.{length}
use borrow.Author.Tests.{le-ltb}
use Rattle.rules.specs.declared.HostStatus.{HostStatus}
use Rattle.rules.specs.declared.ReceiveMode.{ReceiveMode}
use Rattle.rules.specs.declared.ReceiveMode.TheVariants.{Raw, Proposal, Channel, Rejection, Retiring}
use Rattle.rules.specs.Answers.{refusal_number}
use Rattle.rules.specs.Lists.{empty, total, ◌∈◌}
use Rattle.rules.specs.Limits.{outbound_bytes}
use Rattle.rules.specs.State.{Frame, State}
use Rattle.rules.specs.Events.{Event}
use Rattle.rules.specs.Progress.{Progress, goes, stops, stays, listing, ◌then◌, request}
use Rattle.rules.specs.Sending.{exhausted, no_room, numbered, allocate}
use Rattle.rules.specs.Setup.{rejecting, receive_proposal, discard_outbound, reject_inbound}
use Rattle.rules.specs.Receiving.{duplicate, answered, queued, queue_full, queue_overrun, available, deliverable, terminal, above, keeping, delivered, enqueue, is_reject, is_first_proposal, hand_over, consume, confirm, deliver, drain_frame, next_frame, drain_turn, drains, drain, is_next, receive_again, receive_new, receive}
use Rattle.rules.specs.Calls.{gets_data}
use Rattle.rules.specs.Refusals.{excepted}
use Rattle.rules.proofs.Lists.{if_rule, and_right, empty-is}

-- the reject body fits an empty store
abbrev pub Small : State → Type 0
Small s = length s.fixed.reject ≤ outbound_bytes

discards : (s : State) → Small s → Small (discard_outbound s)
unfolding discard_outbound
discards s h = if_rule Small (empty s.outbox.unacked) _ _ (λ e. h) (λ e. h)

fits : (s : State) → Small s → empty s.outbox.unacked ≡ true → no_room s.fixed.reject s ≡ false
unfolding total
fits s h e = rw (empty-is s.outbox.unacked e) (le-ltb 65536 (0 + length s.fixed.reject) (omega (arith, h)))

-- ---- the data that came: its status, and its frame d. f is a frame that is delivered, d or one of the queue

module _ (status : HostStatus) (d : Frame) where
  -- it goes on, or stops by a refusal that is excepted
  abbrev pub Fine : Progress → Type 0
  Fine (goes s es) = Small s
  Fine (stops r s es) = refusal_number r ∈ excepted (gets_data status d)

  fine_listing : (p : Progress) (es : List Event) → Fine p → Fine (listing es p)
  fine_listing (goes s fs) es h = h
  fine_listing (stops r s fs) es h = h

  fine_then : (p : Progress) (on : State → Progress) → Fine p → ((s : State) → Small s → Fine (on s)) → Fine (p then on)
  fine_then (goes s es) on h k = fine_listing (on s) es (k s h)
  fine_then (stops r s es) on h k = h

  fine_request : (s : State) → Small s → Fine (request s)
  unfolding request
  fine_request s h = h

  proposes : (s : State) → Small s → Fine (receive_proposal s)
  unfolding receive_proposal allocate numbered
  proposes s h =
      if_rule Fine (rejecting s && empty s.outbox.unacked) _ _
      (λ e. if_rule Fine (exhausted s) _ _ (λ g. inr (inr (inr (inl refl))))
      (λ g. rw (fits s h (and_right (rejecting s) (empty s.outbox.unacked) e)) h))
      (λ e. if_rule Fine (rejecting s) _ _ (λ g. h) (λ g. h))

  consumes : (m : ReceiveMode) (f : Frame) (s : State) → Small s → Fine (consume m f s)
  unfolding consume
  consumes Raw f s h = h
  consumes Proposal f s h =
      if_rule Fine (is_reject f) _ _ (λ e. fine_then (stays (reject_inbound s)) request (discards _ h) fine_request)
      (λ e. if_rule Fine (is_first_proposal f) _ _ (λ g. fine_then (receive_proposal s) (hand_over f) (proposes s h) (λ u k. k)) (λ g. inr (inr (inl refl))))
  consumes Channel f s h = h
  consumes Rejection f s h = if_rule Fine (is_first_proposal f) _ _ (λ g. fine_then (receive_proposal s) request (proposes s h) fine_request) (λ g. h)
  consumes Retiring f s h = h

  delivers : (f : Frame) (s : State) → Small s → Fine (deliver f s)
  unfolding deliver delivered
  delivers f s h = fine_then (consume s.stage.mode f s) (confirm f.number) (consumes s.stage.mode f s h) (λ u k. fine_request _ k)

  drains-frame : (o : Option Frame) (g : State → Progress) (s : State) → Small s → ((u : State) → Small u → Fine (g u)) → Fine (drain_frame o g s)
  drains-frame none g s h k = h
  drains-frame (some f) g s h k = if_rule Fine (deliverable f s) _ _ (λ e. fine_then (deliver f s) g (delivers f s h) k) (λ e. h)

  drains_fine : (k : ℕ) (s : State) → Small s → Fine (drains k status s)
  unfolding drains drain_turn
  drains_fine zero s h = h
  drains_fine (suc k) s h = if_rule Fine (available status s) _ _ (λ e. drains-frame (next_frame s) (drains k status) s h (drains_fine k)) (λ e. h)

  enqueues : (s : State) → Small s → Fine (enqueue d s)
  unfolding enqueue
  enqueues s h =
      if_rule Fine (queued d.number s) _ _ (λ e. h)
      (λ e. if_rule Fine (queue_full s) _ _ (λ g. inr (inr (inr (inr (inl refl)))))
      (λ g. if_rule Fine (queue_overrun d s) _ _ (λ b. inr (inr (inr (inr (inr (inl refl)))))) (λ b. h)))

  receives_new : (s : State) → Small s → Fine (receive_new status d s)
  unfolding receive_new
  receives_new s h =
      if_rule Fine (available status s && is_next d s && deliverable d s) _ _ (λ e. delivers d s h)
      (λ e. if_rule Fine (available status s && not (is_next d s) && terminal d s) _ _ (λ g. delivers d (keeping (above d.number) s) h) (λ g. enqueues s h))

  -- data that is no duplicate, with its drain
  pub arrives : (s : State) → Small s → Fine (receive_new status d s then request then drain status)
  arrives s h =
      fine_then (receive_new status d s then request) (drain status) (fine_then (receive_new status d s) request (receives_new s h) fine_request)
      (λ u k. drains_fine _ u k)

  pub receives : (s : State) → Small s → Fine (receive status d s)
  unfolding receive
  receives s h =
      if_rule Fine (duplicate d.number s) _ _
      (λ e. fine_then (receive_again d.number s) request (if_rule Fine (answered d.number s) _ _ (λ g. h) (λ g. h)) fine_request)
      (λ e. arrives s h)
