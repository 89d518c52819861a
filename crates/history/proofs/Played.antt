-- Where the buffers are long enough, or none are lent, a history of the exported calls can be followed by the rule book's steps alone, without looking
-- at a byte of a store or of a struct: so that an example computes. Each call's result is one that meets its contract. Assumes nothing.
use mathlib.Core.Path.{◌≡◌, refl, sym, ap, ◌∙◌, subst}
use mathlib.Core.Bool.{Bool, true, false, not, ◌&&◌, ◌||◌}
use mathlib.Core.List.{[], map}
use Prim.Native.Nat.{ℕ}
use native.Mathlib.Omega.{arith}
use lib.ListN.{length, replicate, length-replicate}
use lib.Dec.{ltb}
use borrow.Author.Tests.{le-ltb}
use Rattle.rules.specs.declared.ReceiveMode.TheVariants.{Raw}
use Rattle.rules.specs.declared.Refusal.TheVariants.{ShortBuffer, UnknownCode}
use Rattle.rules.specs.Lists.{Bytes}
use Rattle.rules.specs.State.{State}
use Rattle.rules.specs.Events.{listed}
use Rattle.rules.specs.Progress.{Outcome, ◌refuses◌when◌else◌}
use Rattle.rules.specs.Calls.{Call, step}
use Rattle.rules.specs.Buffers.{taken_by, short, wrong_code}
use Rattle.rules.specs.Answers.{record_in, is_refused}
use Rattle.history.specs.Shown.{Shown, is_command, gives, lists_data, lists_acks, hands_over}
use Rattle.history.specs.Promises.{Session, Buffers, Left, shown_by, Opening, Starts, Meets}
use Rattle.history.specs.Histories.{End, left, right, other, own, History, opening, turn, session, start_of, Trace, nothing, trace, extended, covering, Same, Comes, FitsIn, Allowed, Legal}
use Rattle.history.specs.Round.{counts, uncounted}
use Rattle.rules.specs.Lists.{All, ◌⊕◌}
use Rattle.rules.proofs.Gathered.{gather, message_in, data_in, ack_in}
use Rattle.rules.proofs.RawCalls.{seen}
use Rattle.history.proofs.Viewed.{Viewed, view, lent-to, is-restore, gate_by, outcome_of}
use Rattle.history.proofs.Meets.{Whole, Goes, opened, starts}
use Rattle.history.proofs.Possible.{possible}
use Rattle.history.proofs.Prefix.{state_of_end, comes_by, did, gone, reads_at, fit_at, sane_at}

-- ---- the buffers

unfoldable pub room : Buffers
room = record { list = replicate 4096 0; delivery = replicate 49152 0 }

-- enough room, or none at all
abbrev pub buffers : Bool → Buffers
buffers true = room
buffers false = record { list = []; delivery = [] }

-- what a call comes to with them
abbrev pub plainly : Bool → Call → State → Outcome
plainly true c s = s refuses UnknownCode when wrong_code c else step c s
plainly false c s = s refuses ShortBuffer when (taken_by c).list || (taken_by c).delivery else s refuses UnknownCode when wrong_code c else step c s

none-short : (a b c d p q u v : Bool) → p ≡ false → q ≡ false → u ≡ false → v ≡ false → (a && p || b && q || c && u || d && v) ≡ false
none-short a b c d p q u v e f g h = rw (e, f, g, h) (go a b c d)
  where
    never : (x y : Bool) → x ≡ false → (x || y && false) ≡ false
    never x true e = rw e refl
    never x false e = rw e refl

    go : (a b c d : Bool) → (a && false || b && false || c && false || d && false) ≡ false
    go true b c d = never _ d (never _ c (never false b refl))
    go false b c d = never _ d (never _ c (never false b refl))

long-enough : (n : ℕ) → ltb (length (replicate {A = ℕ} n 0)) n ≡ false
long-enough n = le-ltb (length (replicate {A = ℕ} n 0)) n (omega (arith, length-replicate {A = ℕ} n 0))

some_short : (a b c d u v : Bool) → u ≡ false → v ≡ false → (a && true || b && true || c && u || d && v) ≡ (a || b)
some_short a b c d u v g h = rw (g, h) (go a b c d)
  where
    last : (x y : Bool) → (x || y && false) ≡ x
    last true true = refl
    last true false = refl
    last false true = refl
    last false false = refl

    go : (a b c d : Bool) → (a && true || b && true || c && false || d && false) ≡ (a || b)
    go true true c d = last _ d ∙ last _ c
    go true false c d = last _ d ∙ last _ c
    go false true c d = last _ d ∙ last _ c
    go false false c d = last _ d ∙ last _ c

room-short : (c : Call) (x : Session) → Whole x → short (taken_by c) (lent-to room (view x)) ≡ false
unfolding short room
room-short c x w =
    none-short (taken_by c).list (taken_by c).delivery (taken_by c).outbound (taken_by c).queue (ltb (length (replicate {A = ℕ} 4096 0)) 4096) (ltb (length (replicate {A = ℕ} 49152 0)) 49152) (ltb (length x.outbound) 65536) (ltb (length x.queue) 32768)
    (long-enough 4096) (long-enough 49152) (le-ltb (length x.outbound) 65536 w.outbound) (le-ltb (length x.queue) 32768 w.queue)

none-lent-short : (c : Call) (x : Session) → Whole x → short (taken_by c) (lent-to (buffers false) (view x)) ≡ ((taken_by c).list || (taken_by c).delivery)
unfolding short
none-lent-short c x w =
    some_short (taken_by c).list (taken_by c).delivery (taken_by c).outbound (taken_by c).queue (ltb (length x.outbound) 65536) (ltb (length x.queue) 32768) (le-ltb (length x.outbound) 65536 w.outbound) (le-ltb (length x.queue) 32768 w.queue)

gate_plain : (a b : Bool) (c : Call) (s : State) → outcome_of (gate_by a b) c s ≡ (s refuses ShortBuffer when a else s refuses UnknownCode when b else step c s)
gate_plain true b c s = refl
gate_plain false true c s = refl
gate_plain false false c s = refl

-- ---- scripts

pub data Script : Type 0 where
  begins : Opening → Opening → Script
  calls : Script → End → Bool → Call → Script

abbrev pub state : Script → End → State
state (begins a b) left = (opened a).state
state (begins a b) right = (opened b).state
state (calls k e b c) e' = own e e' (plainly b c (state k e)).state (state k e')

abbrev pub start : Script → End → Opening
start (begins a b) left = a
start (begins a b) right = b
start (calls k e b c) e' = start k e'

abbrev goes_on : Bytes → Call → Outcome → Trace → Trace
goes_on reject c o τ =
    record {
      bodies = τ.bodies ⊕ gives reject τ.commanded c o.answer;
      datas = τ.datas ⊕ gather data_in o.events;
      acks = τ.acks ⊕ gather ack_in o.events;
      handed = τ.handed ⊕ gather message_in o.events;
      commits = τ.commits ⊕ map (covering (length τ.handed)) (record_in o.answer);
      commanded = τ.commanded || (not (is_refused o.answer) && is_command c);
    }

abbrev pub outcome-at : Script → End → Bool → Call → Outcome
outcome-at k e b c = plainly b c (state k e)

abbrev pub traced : Script → End → Trace
traced (begins a b) e = nothing
traced (calls k e b c) e' = own e e' (goes_on (start k e).reject c (outcome-at k e b c) (traced k e)) (traced k e')

-- any call but a restore or retire, in its place
pub record Fine (k : Script) (e : End) (b : Bool) (c : Call) : Type 0 where
  pub comes : Comes c (traced k e) (traced k (other e)) ⊥
  pub stays : (outcome-at k e b c).state.stage.mode ≡ Raw
  pub fits : All (FitsIn (start k (other e)).policy) (gives (start k e).reject (traced k e).commanded c (outcome-at k e b c).answer)
  pub no_restore : is-restore c ≡ false

-- ---- a history that a script describes

pub record Plays (k : Script) (h : History) : Type 0 where
  pub legal : Legal h
  pub begun : (e : End) → start_of h e ≡ start k e
  pub states : (e : End) → state_of_end (session h e) ≡ state k e
  pub traces : (e : End) → trace h e ≡ traced k e

module _ (k : Script) (h : History) (p : Plays k h) (e : End) (b : Bool) (c : Call) where
  whole : Whole (session h e)
  whole = (fit_at h p.legal e).whole

  -- a result of the call
  pub left_by : Left
  left_by = (possible (buffers b) (session h e) whole c).left

  meets : Meets c (buffers b) (session h e) left_by
  unfolding left_by
  meets = (possible (buffers b) (session h e) whole c).meets

  abbrev now : Goes (buffers b) c (session h e) left_by
  now = gone h e (buffers b) c left_by (fit_at h p.legal e) (sane_at h p.legal e) meets

  module _ (f : Fine k e b c) where
    runs : outcome_of now.gate c (state_of_end (session h e)) ≡ outcome-at k e b c
    runs =
        ap (λ v. outcome_of v c (state_of_end (session h e))) (now.gated f.no_restore)
        ∙ gate_plain (short (taken_by c) (lent-to (buffers b) (view (session h e)))) (wrong_code c) c (state_of_end (session h e))
        ∙ go b
        ∙ ap (plainly b c) (p.states e)
      where
        go : (b : Bool) → (state_of_end (session h e) refuses ShortBuffer when short (taken_by c) (lent-to (buffers b) (view (session h e))) else state_of_end (session h e) refuses UnknownCode when wrong_code c else step c (state_of_end (session h e))) ≡ plainly b c (state_of_end (session h e))
        go true = rw (room-short c (session h e) whole) refl
        go false = rw (none-lent-short c (session h e) whole) refl

    pub answers : left_by.answer ≡ (outcome-at k e b c).answer
    answers = ap (λ (w : Shown). w.answer) now.shows ∙ ap (λ (o : Outcome). o.answer) runs

    -- the words that are listed
    pub words : (shown_by left_by).events ≡ listed (outcome-at k e b c).state.outbox.unacked 0 (outcome-at k e b c).events
    words = ap (λ (w : Shown). w.events) now.shows ∙ ap (λ (o : Outcome). listed o.state.outbox.unacked 0 o.events) runs

    leaves : state_of_end left_by.session ≡ (outcome-at k e b c).state
    leaves = ap (λ (t : Viewed). t.state) now.leaves ∙ ap (λ (o : Outcome). o.state) runs

    allowed : Allowed h e c left_by
    allowed =
        record {
          comes = comes_by c (trace h e) (trace h (other e)) {A = ⊥} {B = Same (session h e) left_by.session} (λ x. absurd x) (subst (λ z. z) (λ i. Comes c (sym (p.traces e) i) (sym (p.traces (other e)) i) ⊥) f.comes);
          stays = ap (λ (z : State). z.stage.mode) leaves ∙ f.stays;
          fits = subst (λ z. z) (λ i. All (FitsIn (sym (p.begun (other e)) i).policy) (gives (sym (p.begun e) i).reject (sym (p.traces e) i).commanded c (sym answers i))) f.fits;
        }

    shown-is : did h e c left_by ≡ seen (gives (start_of h e).reject (trace h e).commanded c (outcome_of now.gate c (state_of_end (session h e))).answer) (outcome_of now.gate c (state_of_end (session h e)))
    shown-is = reads_at h e (buffers b) c left_by (fit_at h p.legal e) (sane_at h p.legal e) meets (fit_at h p.legal (other e)) allowed

    pub datas_are : lists_data (shown_by left_by) ≡ gather data_in (outcome-at k e b c).events
    datas_are = ap (λ x. x.frames) shown-is ∙ ap (λ (o : Outcome). gather data_in o.events) runs

    pub acks_are : lists_acks (shown_by left_by) ≡ gather ack_in (outcome-at k e b c).events
    acks_are = ap (λ x. x.acks) shown-is ∙ ap (λ (o : Outcome). gather ack_in o.events) runs

    msgs_are : hands_over (shown_by left_by) ≡ gather message_in (outcome-at k e b c).events
    msgs_are = ap (λ x. x.msgs) shown-is ∙ ap (λ (o : Outcome). gather message_in o.events) runs

    extends : extended (start_of h e).reject c (shown_by left_by) (trace h e) ≡ goes_on (start k e).reject c (outcome-at k e b c) (traced k e)
    extends =
        let τ = p.traces e in
        λ i.
        record {
          bodies = (τ i).bodies ⊕ gives (p.begun e i).reject (τ i).commanded c (answers i);
          datas = (τ i).datas ⊕ datas_are i;
          acks = (τ i).acks ⊕ acks_are i;
          handed = (τ i).handed ⊕ msgs_are i;
          commits = (τ i).commits ⊕ map (covering (length (τ i).handed)) (record_in (answers i));
          commanded = (τ i).commanded || (not (is_refused (answers i)) && is_command c);
        }

    pub counting : counts (outcome-at k e b c).answer ≡ true → counts left_by.answer ≡ true
    counting q = subst (λ a. counts a ≡ true) (sym answers) q

    pub not_counting : uncounted (outcome-at k e b c).answer ≡ true → uncounted left_by.answer ≡ true
    not_counting q = subst (λ a. uncounted a ≡ true) (sym answers) q

pub plays : (k : Script) (h : History) (p : Plays k h) (e : End) (b : Bool) (c : Call) → Fine k e b c → Plays (calls k e b c) (turn h e (buffers b) c (left_by k h p e b c))
plays k h p left b c f =
    record {
      legal = (p.legal, meets k h p left b c, allowed k h p left b c f);
      begun = p.begun;
      states = elim [ left ↦ leaves k h p left b c f | right ↦ p.states right ];
      traces = elim [ left ↦ extends k h p left b c f | right ↦ p.traces right ];
    }
plays k h p right b c f =
    record {
      legal = (p.legal, meets k h p right b c, allowed k h p right b c f);
      begun = p.begun;
      states = elim [ left ↦ p.states left | right ↦ leaves k h p right b c f ];
      traces = elim [ left ↦ p.traces left | right ↦ extends k h p right b c f ];
    }

pub plays_first : (a b : Opening) (x y : Session) → Starts a x → Starts b y → Plays (begins a b) (opening a b x y)
plays_first a b x y p q =
    record {
      legal = (p, q);
      begun = elim [ left ↦ refl | right ↦ refl ];
      states = elim [ left ↦ ap (λ (t : Viewed). t.state) (starts a x p).is | right ↦ ap (λ (t : Viewed). t.state) (starts b y q).is ];
      traces = λ e. refl;
    }
