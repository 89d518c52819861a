-- What the line between two ends admits, and what a call covers, for the steps of rules/proofs/Step.antt. Assumes nothing.
use mathlib.Core.Path.{◌≡◌}
use mathlib.Core.List.{map}
use Prim.Native.Nat.{ℕ, ◌≤◌}
use lib.ListN.{length}
use Rattle.rules.specs.Lists.{◌∈◌}
use Rattle.rules.specs.Start.{message_number}
use Rattle.rules.proofs.Model.{Call, send, arrive, ack, keepalive, prepare, complete, connect, report, ready, idle, model_frame, ack_frame}
use Rattle.history.specs.Histories.{Trace}

-- what a history allows the next call of an end to be; `lim` is the other end's limit on a body
abbrev pub Admits : Call → Trace → Trace → ℕ → Type 0
Admits (send b) me you lim = length b ≤ lim
Admits (arrive m v) me you lim = m ∈ you.datas
Admits (ack k) me you lim = k ∈ you.acks
Admits keepalive me you lim = Unit {0}
Admits prepare me you lim = Unit {0}
Admits (complete r p) me you lim = (k : ℕ) × ((r, k) ∈ me.commits)
Admits (connect v) me you lim = Unit {0}
Admits (report (model_frame n) a) me you lim = n ∈ map message_number me.datas
Admits (report (ack_frame n) a) me you lim = n ∈ me.acks
Admits (ready v) me you lim = Unit {0}
Admits idle me you lim = Unit {0}

-- what a call covers, x being its refusal or 0
abbrev pub Cover : Trace → Call → ℕ → ℕ → Type 0
Cover τ (send b) x n = ⊥
Cover τ (arrive m v) x n = ⊥
Cover τ (ack k) x n = ⊥
Cover τ keepalive x n = ⊥
Cover τ prepare x n = ⊥
Cover τ (complete r p) x n = (x ≡ 0) × (k : ℕ) × ((r, k) ∈ τ.commits) × (n ≤ k)
Cover τ (connect v) x n = ⊥
Cover τ (report fr a) x n = ⊥
Cover τ (ready v) x n = ⊥
Cover τ idle x n = ⊥
