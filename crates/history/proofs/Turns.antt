-- One call of an end: what its words and buffers show is what the rule book's outcome says, and it is one of the steps of rules/proofs/Step.antt.
-- Assumes nothing.
use mathlib.Core.Path.{◌≡◌, refl, sym, ap, ◌∙◌, subst}
use mathlib.Core.Bool.{Bool, true, false}
use mathlib.Core.List.{List, [], ◌++◌, map}
use Prim.Native.Nat.{ℕ, ◌+◌, ◌-◌, ◌≤◌, max}
use native.Mathlib.Omega.{arith}
use lib.ListN.{length, drop, replicate, length-append, length-replicate, length-drop}
use Rattle.rules.specs.declared.Refusal.{Refusal}
use Rattle.rules.specs.declared.Refusal.TheVariants.{ShortBuffer, UnknownCode, BadRecord, BodyTooLong, GapTooWide, LastNumber, AckOutOfRange, CommitNumber, NotAProposal, HandoffTooLong, NumbersExhausted, GenerationsExhausted, UnackedFull, QueueCount, QueueBytes, AcksFull, RetriesFull, RestoreTooLate, AlreadyAccepted, ProposalNotFirst, OtherHandoff, HandoffWithoutCommand, HandoffPending, CommandDiffers, HandoffInconsistent, HandoffNotHeld, ChannelStarted, SetupRetired}
use Rattle.rules.specs.declared.Answer.{Answer}
use Rattle.rules.specs.declared.Answer.TheVariants.{Done, Number, Flag, Prepared, Held, NotHeld, Refused}
use Rattle.rules.specs.Lists.{Bytes, packed}
use Rattle.rules.specs.Answers.{refused_by, refusal_number}
use Rattle.rules.specs.State.{State, body_of, frame_body, start_of}
use Rattle.rules.specs.Events.{Event, handed, listed}
use Rattle.rules.specs.Progress.{Outcome}
use Rattle.rules.specs.Replay.{fetch}
use Rattle.rules.specs.Calls.{Call, fetches, step}
use Rattle.rules.specs.Buffers.{taken_by, where_taken, delivery_after, repacked, outbound_end, queue_reach, outbound_after, queue_after}
use Rattle.rules.specs.Answers.{record_in, is_refused}
use Rattle.history.specs.Shown.{pointed, hands_over, lists_data, lists_acks, gives}
use Rattle.history.specs.Promises.{Buffers}
use Rattle.history.specs.Demand.{part}
use Rattle.rules.specs.Lists.{◌∈◌, All}
use Rattle.rules.proofs.Ranges.{Within}
use Rattle.rules.proofs.Model
use Rattle.rules.proofs.Model.{fetch_held, msgs_held, numbers_held}
use Rattle.rules.proofs.Step.{Step, Effect, Sane}
use Rattle.history.proofs.StepLaws.{rises, held-frames}
use Rattle.rules.proofs.Core.{core, held_of}
use Rattle.rules.proofs.Gathered.{gather, message_in, data_in, ack_in}
use Rattle.history.proofs.Reading.{read_handed, none-handed, read_acks, read_datas, read_fetch}
use Rattle.rules.proofs.RawCalls.{seen}
use Rattle.history.proofs.Untouched.{left-bodies, left-queue}
use Rattle.history.proofs.Viewed.{Viewed, Gate, passes, is-short, is_unknown, outcome_of, next, shown}

-- ---- refusals

positive : (r : Refusal) → refusal_number r ≡ 0 → ⊥
positive ShortBuffer e = omega (arith, e)
positive UnknownCode e = omega (arith, e)
positive BadRecord e = omega (arith, e)
positive BodyTooLong e = omega (arith, e)
positive GapTooWide e = omega (arith, e)
positive LastNumber e = omega (arith, e)
positive AckOutOfRange e = omega (arith, e)
positive CommitNumber e = omega (arith, e)
positive NotAProposal e = omega (arith, e)
positive HandoffTooLong e = omega (arith, e)
positive NumbersExhausted e = omega (arith, e)
positive GenerationsExhausted e = omega (arith, e)
positive UnackedFull e = omega (arith, e)
positive QueueCount e = omega (arith, e)
positive QueueBytes e = omega (arith, e)
positive AcksFull e = omega (arith, e)
positive RetriesFull e = omega (arith, e)
positive RestoreTooLate e = omega (arith, e)
positive AlreadyAccepted e = omega (arith, e)
positive ProposalNotFirst e = omega (arith, e)
positive OtherHandoff e = omega (arith, e)
positive HandoffWithoutCommand e = omega (arith, e)
positive HandoffPending e = omega (arith, e)
positive CommandDiffers e = omega (arith, e)
positive HandoffInconsistent e = omega (arith, e)
positive HandoffNotHeld e = omega (arith, e)
positive ChannelStarted e = omega (arith, e)
positive SetupRetired e = omega (arith, e)

pub unrefused : (a : Answer) → refused_by a ≡ 0 → is_refused a ≡ false
unrefused Done e = refl
unrefused (Number n) e = refl
unrefused (Flag b) e = refl
unrefused (Prepared c) e = refl
unrefused (Held start len) e = refl
unrefused NotHeld e = refl
unrefused (Refused r) e = absurd (positive r e)

-- ---- the stores begin with their bodies

abbrev pub Packed : Bytes → State → Type 0
Packed b s = (rest : Bytes) × (b ≡ packed body_of s.outbox.unacked ++ rest)

abbrev pub Queued : Bytes → State → Type 0
Queued b s = (rest : Bytes) × (b ≡ packed frame_body s.inbox.queue ++ rest)

packed-after : (c : Call) (s : State) (o : Bytes) → Packed o s → (b : Bool) → (taken_by c).outbound ≡ b → Packed (where_taken b (outbound_after c s o) o) (step c s).state
unfolding outbound_after repacked
packed-after c s o p true e =
    let us : Bytes = packed body_of (step c s).state.outbox.unacked in
    (replicate (outbound_end s - length us) 0 ++ drop (max (outbound_end s) (length us)) o, refl)
packed-after c s o p false e = (p.0, p.1 ∙ ap (λ z. z ++ p.0) (sym (left-bodies c s e)))

queued-after : (c : Call) (s : State) (q : Bytes) → Queued q s → (b : Bool) → (taken_by c).queue ≡ b → Queued (where_taken b (queue_after c s q) q) (step c s).state
unfolding queue_after repacked
queued-after c s q p true e =
    let fs : Bytes = packed frame_body (step c s).state.inbox.queue in
    (replicate (queue_reach c s - length fs) 0 ++ drop (max (queue_reach c s) (length fs)) q, refl)
queued-after c s q p false e = (p.0, p.1 ∙ ap (λ z. packed frame_body z ++ p.0) (sym (left-queue c s e)))

pub packed-next : (v : Gate) (l : Buffers) (c : Call) (t : Viewed) → Packed t.outbound t.state → Packed (next v l c t).outbound (next v l c t).state
packed-next passes l c t p = packed-after c t.state t.outbound p (taken_by c).outbound refl
packed-next is-short l c t p = p
packed-next is_unknown l c t p = p

pub queued-next : (v : Gate) (l : Buffers) (c : Call) (t : Viewed) → Queued t.queue t.state → Queued (next v l c t).queue (next v l c t).state
queued-next passes l c t p = queued-after c t.state t.queue p (taken_by c).queue refl
queued-next is-short l c t p = p
queued-next is_unknown l c t p = p

-- and stay as long as they were

long_after : (c : Call) (s : State) (n : ℕ) (o : Bytes) → n ≤ length o → (b : Bool) → n ≤ length (where_taken b (outbound_after c s o) o)
unfolding outbound_after repacked
long_after c s n o p true = simp (length-append, length-replicate, length-drop) (omega arith)
long_after c s n o p false = p

long-queue-after : (c : Call) (s : State) (n : ℕ) (q : Bytes) → n ≤ length q → (b : Bool) → n ≤ length (where_taken b (queue_after c s q) q)
unfolding queue_after repacked
long-queue-after c s n q p true = simp (length-append, length-replicate, length-drop) (omega arith)
long-queue-after c s n q p false = p

pub long-next : (v : Gate) (l : Buffers) (c : Call) (t : Viewed) (n : ℕ) → n ≤ length t.outbound → n ≤ length (next v l c t).outbound
long-next passes l c t n p = long_after c t.state n t.outbound p (taken_by c).outbound
long-next is-short l c t n p = p
long-next is_unknown l c t n p = p

pub long-queue-next : (v : Gate) (l : Buffers) (c : Call) (t : Viewed) (n : ℕ) → n ≤ length t.queue → n ≤ length (next v l c t).queue
long-queue-next passes l c t n p = long-queue-after c t.state n t.queue p (taken_by c).queue
long-queue-next is-short l c t n p = p
long-queue-next is_unknown l c t n p = p

-- ---- what is handed over

handed-after : (c : Call) (s : State) (d : Bytes) → ((taken_by c).delivery ≡ false → gather message_in (step c s).events ≡ []) → (b : Bool) → (taken_by c).delivery ≡ b
    → pointed 2 (where_taken b (delivery_after (step c s) d) d) (listed (step c s).state.outbox.unacked 0 (step c s).events) ≡ gather message_in (step c s).events
unfolding delivery_after
handed-after c s d k true e =
    let es : List Event = (step c s).events in
    read_handed (step c s).state.outbox.unacked (packed handed es ++ drop (length (packed handed es)) d) (drop (length (packed handed es)) d) es [] 0 refl refl
handed-after c s d k false e = none-handed (step c s).state.outbox.unacked d (step c s).events 0 (k e) ∙ sym (k e)

handed-shown : (v : Gate) (l : Buffers) (c : Call) (t : Viewed) → ((taken_by c).delivery ≡ false → gather message_in (step c t.state).events ≡ [])
    → hands_over (shown v l c t) ≡ gather message_in (outcome_of v c t.state).events
handed-shown passes l c t k = handed-after c t.state l.delivery k (taken_by c).delivery refl
handed-shown is-short l c t k = none-handed t.state.outbox.unacked l.delivery [] 0 refl
handed-shown is_unknown l c t k = none-handed t.state.outbox.unacked l.delivery [] 0 refl

module _ (v : Gate) (l : Buffers) (c : Call) (t : Viewed) where
  abbrev o : Outcome
  o = outcome_of v c t.state

  -- ---- what is listed

  acks-shown : lists_acks (shown v l c t) ≡ gather ack_in o.events
  acks-shown = read_acks o.state.outbox.unacked o.events 0

  datas-shown : Packed (next v l c t).outbound o.state → (b : ℕ) → Within 0 b (numbers_held (core o.state).out.una) → All (λ m. m ∈ msgs_held (core o.state).out.una) (gather data_in o.events) → lists_data (shown v l c t) ≡ gather data_in o.events
  datas-shown q b w k = read_datas o.state.outbox.unacked b (next v l c t).outbound q.0 q.1 w o.events 0 k

  -- ---- the whole

  abbrev pub effect : Bytes → Bool → Effect
  effect reject d =
      record {
        state = core o.state;
        refusal = refused_by o.answer;
        given = gives reject d c o.answer;
        msgs = hands_over (shown v l c t);
        frames = lists_data (shown v l c t);
        acks = lists_acks (shown v l c t);
        recs = record_in o.answer;
      }

  module _ (reject : Bytes) (d : Bool) (k : Model.Call) (p : Packed t.outbound t.state) (sane : Sane (core t.state))
      (quiet : (taken_by c).delivery ≡ false → gather message_in (step c t.state).events ≡ []) (h : Step (core t.state) k (seen (gives reject d c o.answer) o)) where
    -- what is shown is what the outcome says
    pub reads : effect reject d ≡ seen (gives reject d c o.answer) o
    reads =
        let g : List Bytes = gives reject d c o.answer in
        let w = rises (core t.state) k (seen g o) h sane in
        let ms : hands_over (shown v l c t) ≡ gather message_in o.events = handed-shown v l c t quiet in
        let ds : lists_data (shown v l c t) ≡ gather data_in o.events = datas-shown (packed-next v l c t p) w.0 w.1 (held-frames (core t.state) k (seen g o) h) in
        let ks : lists_acks (shown v l c t) ≡ gather ack_in o.events = acks-shown in
        λ i. record { state = core o.state; refusal = refused_by o.answer; given = g; msgs = ms i; frames = ds i; acks = ks i; recs = record_in o.answer }

    -- so a step of the outcome is a step of what is shown
    pub shows : Step (core t.state) k (effect reject d)
    shows = subst (λ f. Step (core t.state) k f) (sym reads) h

-- a fetch
pub fetch-shown : (n : ℕ) (t : Viewed) → Packed t.outbound t.state → part (step (fetches n) t.state).answer t.outbound ≡ fetch_held n (map held_of t.state.outbox.unacked)
unfolding step fetch
fetch-shown n t p =
    let us = t.state.outbox.unacked in
    let z : 0 + start_of n us ≡ start_of n us = omega arith in
    rw z at (read_fetch t.outbound p.0 us [] n p.1)
