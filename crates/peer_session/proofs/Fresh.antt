-- A new session. Assumes nothing.
use Rattle.std.specs.Prelude.{if◌then◌else◌}
use mathlib.Core.Path.{◌≡◌, ap, ◌∙◌}
use mathlib.Core.Bool.{Bool}
use mathlib.Core.List.{List, [], map}
use mathlib.Core.Option.{none, some}
use Prim.Native.Nat.{ℕ}
use lib.ListN.{take}
use Rattle.stores.specs.Packed.{cut}
use Rattle.rules.specs.declared.Policy.{Policy}
use Rattle.rules.specs.Lists.{Bytes}
use Rattle.rules.specs.State as R
use Rattle.rules.specs.Start.{as_sent, new}
use Rattle.outbox.specs.declared.Outbox.{Outbox}
use Rattle.outbox.specs.View.{unacked_of}
use Rattle.queue.specs.View.{len_q, frame, frames_of}
use Rattle.peer_session.specs.declared.Stage.{Stage}
use Rattle.peer_session.specs.declared.RejectBody.{RejectBody}
use Rattle.peer_session.specs.declared.SessionState.{SessionState}
use Rattle.peer_session.specs.View.{handoff_of, stage_of, reject_of, state_of}
use Rattle.peer_session.specs.New.{New}
use Rattle.peer_session.proofs.Held.{outbox_cong, inbox_cong, stage_cong, fixed_cong, state_cong}

module _ {x : Outbox} {remote disposition : ℕ} {policy : Policy} {reject : RejectBody} {r : SessionState} (n : New x remote disposition policy reject r) where
  no_handoff : handoff_of r.handoff ≡ none
  no_handoff =
      ap (λ (b : Bool). if b then some (record { id = r.handoff.id; number = r.handoff.number; body = take r.handoff.len r.handoff.body; sent = r.handoff.sent; acknowledged = r.handoff.acknowledged }) else none)
      n.handoff.absent

  new-stage : stage_of r.stage r.handoff ≡ (new (record { next = 0; remote = 0; disposition = disposition; unacked = [] }) policy []).stage
  unfolding new
  new-stage =
      let g : r.stage ≡ _ = n.stage in
      stage_cong (ap (λ (s : Stage). s.disposition) g) (ap (λ (s : Stage). s.setup) g) (ap (λ (s : Stage). s.mode) g) no_handoff (ap (λ (s : Stage). s.failed) g)

  -- is the rule book's
  pub new-state : (ms : List R.Message) (o q : Bytes) → unacked_of x o ≡ map as_sent ms
      → state_of r o q ≡ new (record { next = x.next; remote = remote; disposition = disposition; unacked = ms }) policy (reject_of reject)
  unfolding new frames_of cut
  new-state ms o q e =
      let fs : frames_of r.queue q ≡ [] = ap (λ (k : ℕ). cut len_q frame (take k r.queue.records) q) n.queue.none in
      let ws : take r.waiting.count r.waiting.values ≡ [] = ap (λ (k : ℕ). take k r.waiting.values) n.waiting in
      let rs : take r.retry.count r.retry.values ≡ [] = ap (λ (k : ℕ). take k r.retry.values) n.retry in
      state_cong (outbox_cong (ap (λ (y : Outbox). y.next) n.outbox) (ap (λ (y : Outbox). unacked_of y o) n.outbox ∙ e))
      (inbox_cong n.number n.released fs ws rs) n.clock new-stage (fixed_cong n.policy_is (ap reject_of n.reject_is))
