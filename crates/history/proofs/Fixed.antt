-- No call changes the policy or the reject body. Assumes nothing.
use mathlib.Core.Path.{◌≡◌, refl}
use Prim.Native.Nat.{ℕ}
use lib.Dec.{ltb}
use Rattle.rules.specs.declared.HostStatus.{HostStatus}
use Rattle.rules.specs.State.{State, mode_is}
use Rattle.rules.specs.Clock.{at_limit}
use Rattle.rules.specs.Progress.{Outcome}
use Rattle.rules.specs.Receiving.{mode_of, consumer_ready}
use Rattle.rules.specs.Calls.{Call, sends, gets_data, gets_ack, gets_keepalive, is_ready, accepts, rejects, prepares_channel, commands, prepares, completes, connects, reports, fetches, retires, restores, step}
use Rattle.rules.proofs.Kept.{consumer_ready_kept, step_kept}
use Rattle.rules.proofs.RawCalls.{refuses_rule}
use Rattle.history.proofs.Viewed.{Gate, passes, is-short, is_unknown, outcome_of}

abbrev Stands : State → Outcome → Type 0
Stands s o = o.state.fixed ≡ s.fixed

-- a consumer ready sets the mode, and goes on as one of that mode
ready_fixed : (status : HostStatus) (mode : ℕ) (s : State) → Stands s (consumer_ready status mode s)
unfolding consumer_ready
ready_fixed status mode s =
    refuses_rule (Stands s) s _ (ltb 4 mode) _ (λ e. refl) λ e.
    refuses_rule (Stands s) s _ (at_limit s) _ (λ f. refl) λ f.
    rw (e, f) at (consumer_ready_kept status mode (mode_is (mode_of mode) s) refl).fixed

step-fixed : (c : Call) (s : State) → Stands s (step c s)
unfolding step
step-fixed (sends b) s = (step_kept (sends b) s tt).fixed
step-fixed (gets_data status f) s = (step_kept (gets_data status f) s tt).fixed
step-fixed (gets_ack n) s = (step_kept (gets_ack n) s tt).fixed
step-fixed gets_keepalive s = (step_kept gets_keepalive s tt).fixed
step-fixed (is_ready status mode) s = ready_fixed status mode s
step-fixed (accepts terms b) s = (step_kept (accepts terms b) s tt).fixed
step-fixed rejects s = (step_kept rejects s tt).fixed
step-fixed (prepares_channel terms) s = (step_kept (prepares_channel terms) s tt).fixed
step-fixed (commands restoring c) s = (step_kept (commands restoring c) s tt).fixed
step-fixed prepares s = (step_kept prepares s tt).fixed
step-fixed (completes c persisted) s = (step_kept (completes c persisted) s tt).fixed
step-fixed (connects event now forced) s = (step_kept (connects event now forced) s tt).fixed
step-fixed (reports what n accepted) s = (step_kept (reports what n accepted) s tt).fixed
step-fixed (fetches n) s = (step_kept (fetches n) s tt).fixed
step-fixed (retires retain) s = (step_kept (retires retain) s tt).fixed
step-fixed (restores r h) s = (step_kept (restores r h) s tt).fixed

pub outcome-fixed : (v : Gate) (c : Call) (s : State) → Stands s (outcome_of v c s)
outcome-fixed passes c s = step-fixed c s
outcome-fixed is-short c s = refl
outcome-fixed is_unknown c s = refl
