-- A session as the rule book sees it, and what the rule book says of a call on it. Assumes nothing.
use mathlib.Core.Bool.{Bool, true, false}
use mathlib.Core.List.{[]}
use Rattle.rules.specs.declared.Refusal.TheVariants.{ShortBuffer, UnknownCode}
use Rattle.rules.specs.declared.Answer.TheVariants.{Refused}
use Rattle.rules.specs.Lists.{Bytes}
use Rattle.rules.specs.State.{State}
use Rattle.rules.specs.Events.{listed}
use Rattle.rules.specs.Progress.{Outcome, outcome}
use Rattle.rules.specs.Calls.{Call, sends, gets_data, gets_ack, gets_keepalive, is_ready, accepts, rejects, prepares_channel, commands, prepares, completes, connects, reports, fetches, retires, restores, step}
use Rattle.rules.specs.Buffers.{Lent, taken_by, where_taken, list_after, delivery_after, outbound_after, queue_after}
use Rattle.peer_session.specs.View.{state_of}
use Rattle.history.specs.Shown.{Shown}
use Rattle.history.specs.Promises.{Session, Buffers}

pub record Viewed : Type 0 where
  pub state : State
  pub outbound : Bytes
  pub queue : Bytes

abbrev pub view : Session → Viewed
view x = record { state = state_of x.code x.outbound x.queue; outbound = x.outbound; queue = x.queue }

abbrev pub lent-to : Buffers → Viewed → Lent
lent-to l t = record { list = l.list; delivery = l.delivery; outbound = t.outbound; queue = t.queue }

-- how a call fares at its entry: it is taken up, or refused by 1 or 2
pub data Gate : Type 0 where
  passes : Gate
  is-short : Gate
  is_unknown : Gate

-- a restore is also refused by 1 for slices that do not hold its record
abbrev pub is-restore : Call → Bool
is-restore (sends b) = false
is-restore (gets_data status f) = false
is-restore (gets_ack n) = false
is-restore gets_keepalive = false
is-restore (is_ready status mode) = false
is-restore (accepts terms b) = false
is-restore rejects = false
is-restore (prepares_channel terms) = false
is-restore (commands restoring c) = false
is-restore prepares = false
is-restore (completes c persisted) = false
is-restore (connects event now forced) = false
is-restore (reports what n accepted) = false
is-restore (fetches n) = false
is-restore (retires retain) = false
is-restore (restores r h) = true

-- by whether a buffer is short, and a code outside its list
abbrev pub gate_by : Bool → Bool → Gate
gate_by true unknown = is-short
gate_by false true = is_unknown
gate_by false false = passes

abbrev pub outcome_of : Gate → Call → State → Outcome
outcome_of passes c s = step c s
outcome_of is-short c s = outcome s (Refused ShortBuffer) []
outcome_of is_unknown c s = outcome s (Refused UnknownCode) []

abbrev pub left_of : Gate → Lent → Call → State → Lent
left_of passes l c s =
    record {
      list = where_taken (taken_by c).list (list_after (step c s) l.list) l.list;
      delivery = where_taken (taken_by c).delivery (delivery_after (step c s) l.delivery) l.delivery;
      outbound = where_taken (taken_by c).outbound (outbound_after c s l.outbound) l.outbound;
      queue = where_taken (taken_by c).queue (queue_after c s l.queue) l.queue;
    }
left_of is-short l c s = l
left_of is_unknown l c s = l

module _ (v : Gate) (l : Buffers) (c : Call) (t : Viewed) where
  -- the session that it leaves
  abbrev pub next : Viewed
  next =
      record {
        state = (outcome_of v c t.state).state;
        outbound = (left_of v (lent-to l t) c t.state).outbound;
        queue = (left_of v (lent-to l t) c t.state).queue;
      }

  -- what it shows
  abbrev pub shown : Shown
  shown =
      record {
        answer = (outcome_of v c t.state).answer;
        events = listed (outcome_of v c t.state).state.outbox.unacked 0 (outcome_of v c t.state).events;
        delivery = (left_of v (lent-to l t) c t.state).delivery;
        outbound = (left_of v (lent-to l t) c t.state).outbound;
      }
