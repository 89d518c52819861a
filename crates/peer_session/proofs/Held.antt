-- A state and what it settles of a session, from their parts. Assumes nothing.
use mathlib.Core.Path.{◌≡◌}
use mathlib.Core.Bool.{Bool}
use mathlib.Core.List.{List}
use mathlib.Core.Option.{Option}
use Prim.Native.Nat.{ℕ}
use Rattle.rules.specs.declared.Policy.{Policy}
use Rattle.rules.specs.declared.Clock.{Clock}
use Rattle.rules.specs.declared.Setup.{Setup}
use Rattle.rules.specs.declared.ReceiveMode.{ReceiveMode}
use Rattle.rules.specs.Lists.{Bytes}
use Rattle.rules.specs.State as R
use Rattle.outbox.specs.declared.Unacked.{Unacked}
use Rattle.queue.specs.declared.Queued.{Queued}
use Rattle.peer_session.specs.View.{Held}

pub outbox_cong : {a b : ℕ} {us vs : List R.Unacked} → a ≡ b → us ≡ vs
    → ◌≡◌ {A = R.Outbox} (record { next = a; unacked = us }) (record { next = b; unacked = vs })
outbox_cong p q = cc

pub inbox_cong : {a b c d : ℕ} {fs gs : List R.Frame} {k l m n : List ℕ} → a ≡ b → c ≡ d → fs ≡ gs → k ≡ l → m ≡ n
    → ◌≡◌ {A = R.Inbox} (record { remote = a; released = c; queue = fs; waiting = k; retry = m }) (record { remote = b; released = d; queue = gs; waiting = l; retry = n })
inbox_cong p q r s u = cc

pub stage_cong : {a b : ℕ} {c d : Setup} {e f : ReceiveMode} {g h : Option R.Handoff} {k l : Bool} → a ≡ b → c ≡ d → e ≡ f → g ≡ h → k ≡ l
    → ◌≡◌ {A = R.Stage} (record { disposition = a; setup = c; mode = e; handoff = g; failed = k }) (record { disposition = b; setup = d; mode = f; handoff = h; failed = l })
stage_cong p q r s u = cc

pub fixed_cong : {a b : Policy} {k l : Bytes} → a ≡ b → k ≡ l → ◌≡◌ {A = R.Fixed} (record { policy = a; reject = k }) (record { policy = b; reject = l })
fixed_cong p q = cc

pub state_cong : {a b : R.Outbox} {c d : R.Inbox} {e f : Clock} {g h : R.Stage} {k l : R.Fixed} → a ≡ b → c ≡ d → e ≡ f → g ≡ h → k ≡ l
    → ◌≡◌ {A = R.State} (record { outbox = a; inbox = c; clock = e; stage = g; fixed = k }) (record { outbox = b; inbox = d; clock = f; stage = h; fixed = l })
state_cong p q r s u = cc

-- two sessions, or a session and a state, that settle the same
pub record Agree (x y : Held) : Type 0 where
  pub next : x.next ≡ y.next
  pub unackeds : x.unackeds ≡ y.unackeds
  pub unacked : x.unacked ≡ y.unacked
  pub remote : x.remote ≡ y.remote
  pub released : x.released ≡ y.released
  pub queues : x.queues ≡ y.queues
  pub queue : x.queue ≡ y.queue
  pub waits : x.waits ≡ y.waits
  pub waiting : x.waiting ≡ y.waiting
  pub retries : x.retries ≡ y.retries
  pub retry : x.retry ≡ y.retry
  pub clock : x.clock ≡ y.clock
  pub stage : x.stage ≡ y.stage
  pub handed : x.handoff_size ≡ y.handoff_size
  pub policy : x.policy ≡ y.policy
  pub rejects : x.reject_size ≡ y.reject_size
  pub reject : x.reject ≡ y.reject

pub agree : {x y : Held} → Agree x y → x ≡ y
agree {x} {y} h =
    held_cong h.next h.unackeds h.unacked h.remote h.released h.queues h.queue h.waits h.waiting h.retries h.retry
    h.clock h.stage h.handed h.policy h.rejects h.reject
  where
    held_cong : {a a' b b' d d' e e' f f' g g' i i' j j' k k' : ℕ} {us us' : List Unacked} {qs qs' : List Queued} {ws ws' rs rs' : List ℕ} {c c' : Clock} {s s' : R.Stage} {p p' : Policy} {w w' : Bytes}
        → a ≡ a' → b ≡ b' → us ≡ us' → d ≡ d' → e ≡ e' → f ≡ f' → qs ≡ qs' → g ≡ g' → ws ≡ ws' → i ≡ i' → rs ≡ rs' → c ≡ c' → s ≡ s' → j ≡ j' → p ≡ p' → k ≡ k' → w ≡ w'
        → ◌≡◌ {A = Held}
        (record { next = a; unackeds = b; unacked = us; remote = d; released = e; queues = f; queue = qs; waits = g; waiting = ws; retries = i; retry = rs; clock = c; stage = s; handoff_size = j; policy = p; reject_size = k; reject = w })
        (record { next = a'; unackeds = b'; unacked = us'; remote = d'; released = e'; queues = f'; queue = qs'; waits = g'; waiting = ws'; retries = i'; retry = rs'; clock = c'; stage = s'; handoff_size = j'; policy = p'; reject_size = k'; reject = w' })
    held_cong p1 p2 p3 p4 p5 p6 p7 p8 p9 p10 p11 p12 p13 p14 p15 p16 p17 = cc
