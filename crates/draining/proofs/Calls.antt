-- A call that takes all four buffers: the tests at its entry, and its promise from what it comes to. Assumes nothing.
use mathlib.Core.Path.{◌≡◌, sym, ap, ◌∙◌}
use mathlib.Core.Bool.{true, false}
use mathlib.Core.List.{List, [], ◌++◌}
use Prim.Native.Nat.{ℕ, ◌*◌, ◌≤◌, ◌<◌}
use native.Mathlib.Omega.{arith}
use native.Mathlib.Nat.{zero-add}
use lib.ListN.{length, drop}
use Rattle.stores.specs.Placed.{placed}
use Rattle.rules.specs.declared.Answer.{Answer}
use Rattle.rules.specs.declared.Answer.TheVariants.{Refused}
use Rattle.rules.specs.declared.Refusal.{Refusal}
use Rattle.rules.specs.Lists.{Bytes, packed}
use Rattle.rules.specs.State as R
use Rattle.rules.specs.State.{State, body_of, frame_body}
use Rattle.rules.specs.Events.{Event, handed, listed}
use Rattle.rules.specs.Progress.{Progress, goes, stops, Outcome, outcome, answers}
use Rattle.rules.specs.Calls.{Call, step}
use Rattle.rules.specs.Buffers.{Takes, takes, taken_by, short, wrong_code, over, flat, repacked, outbound_end, queue_end, queue_reach, where_taken}
use Rattle.std.specs.Prelude.{Option}
use Rattle.events.specs.Written.{Books, books, write, Final, final, ends}
use Rattle.outbox.specs.View.{end_u, unacked_of}
use Rattle.outbox.proofs.View.{exact-total}
use Rattle.peer_session.specs.declared.SessionState.{SessionState}
use Rattle.peer_session.specs.View.{held, state_of}
use Rattle.peer_session.specs.Sound.{sound_of}
use Rattle.peer_session.proofs.View.{Good, exact-held, sound-good}
use Rattle.session.specs.declared.Returned.{Returned}
use Rattle.session.specs.Promise.{lent, exit, promise, Called, Turned}
use Rattle.session.proofs.Lengths.{long-enough}
use Rattle.session.proofs.Entry.{Entered, entered, is_refused, meets}
use Rattle.draining.specs.Ends.{Stores}
use Rattle.draining.specs.Arrived.{told}
use Rattle.draining.specs.Arrived.{Arrived}

-- a run at the front
front-run : (w l : List ℕ) → placed l (4 * 0) w ≡ over w l
unfolding placed
front-run w l = ap (λ (k : ℕ). w ++ drop k l) (zero-add (length w))

module _ (c : Call) (all : taken_by c ≡ takes true true true true) (s : SessionState) (l : List ℕ) (d o q : Bytes) (ll : 4096 ≤ length l) (ld : 49152 ≤ length d) (lo : 65536 ≤ length o) (lq : 32768 ≤ length q) where
  long : short (taken_by c) (lent l d o q) ≡ false
  long = long-enough (taken_by c) (lent l d o q) (λ e. ll) (λ e. ld) (λ e. lo) (λ e. lq)

  module _ (known : wrong_code c ≡ false) (sound : sound_of s ≡ true) (i : Entered s o q) where
    abbrev S : State
    S = state_of s o q

    pub refused : {x : Refusal} {r : Returned} → Turned s x r → queue_reach c S ≡ queue_end S → step c S ≡ outcome S (Refused x) [] → Called c s (lent l d o q) r (lent l d o q)
    refused t k e = is_refused c s (lent l d o q) long known t sound i k e

    -- ---- what it comes to

    module _ {r : SessionState} {n end : ℕ} {l' : List ℕ} {d' o' q' : Bytes} (st : Stores s (queue_reach c S) o q r o' q') where
      came : (x : State) (a : Answer) (es : List Event) → step c S ≡ outcome x a es → x ≡ state_of r o' q' → write (unacked_of r.outbox o') es (books l 0 d 0) ≡ books l' n d' end
          → exit (held r) a n (lent l' d' o' q') ≡ promise c s (lent l d o q)
      unfolding write
      came x a es e f w =
          let lw : l' ≡ over (flat (listed (unacked_of r.outbox o') 0 es)) l = sym (ap (λ (z : Books). z.list) w) ∙ front-run (flat (listed (unacked_of r.outbox o') 0 es)) l in
          let dw : d' ≡ over (packed handed es) d = sym (ap (λ (z : Books). z.delivery) w) ∙ front-run (packed handed es) d in
          let ow : o' ≡ repacked (end_u s.outbox) (packed body_of (unacked_of r.outbox o')) o = st.outbound in
          meets c s (lent l d o q) long known {r = r} sound
          (record {
            left = state_of r o' q';
            events = es;
            does = e ∙ ap {B = Outcome} (λ (z : State). outcome z a es) f;
            session = exact-held r o' q' st.exact;
            count = omega (arith, ap (λ (z : Books). z.n) w);
            list = lw ∙ sym (ap (λ (z : Takes). where_taken z.list (over (flat (listed (unacked_of r.outbox o') 0 es)) l) l) all);
            delivery = dw ∙ sym (ap (λ (z : Takes). where_taken z.delivery (over (packed handed es) d) d) all);
            outbound =
                ow
                ∙ ap (λ (k : ℕ). repacked k (packed body_of (unacked_of r.outbox o')) o) (exact-total s.outbox o i.good.exact.outbox)
                ∙ sym (ap (λ (z : Takes). where_taken z.outbound (repacked (outbound_end S) (packed body_of (unacked_of r.outbox o')) o) o) all);
            queue = st.queue ∙ sym (ap (λ (z : Takes). where_taken z.queue (repacked (queue_reach c S) (packed frame_body (state_of r o' q').inbox.queue) q) q) all);
          })

      pub comes : {y : Option Refusal} (p : Progress) (a : Answer) → step c S ≡ answers a p
          → ((us : List R.Unacked) → final us p (books l 0 d 0) ≡ ends y (state_of r o' q') (books l' n d' end))
          → exit (held r) (told a y) n (lent l' d' o' q') ≡ promise c s (lent l d o q)
      comes {y} (goes x es) a e h =
          ap (λ (z : Option Refusal). exit (held r) (told a z) n (lent l' d' o' q')) (sym (ap (λ (z : Final). z.stop) (h (unacked_of r.outbox o'))))
          ∙ came x a es e (ap (λ (z : Final). z.state) (h (unacked_of r.outbox o'))) (ap (λ (z : Final). z.books) (h (unacked_of r.outbox o')))
      comes {y} (stops v x es) a e h =
          ap (λ (z : Option Refusal). exit (held r) (told a z) n (lent l' d' o' q')) (sym (ap (λ (z : Final). z.stop) (h (unacked_of r.outbox o'))))
          ∙ came x (Refused v) es e (ap (λ (z : Final). z.state) (h (unacked_of r.outbox o'))) (ap (λ (z : Final). z.books) (h (unacked_of r.outbox o')))

-- ---- past the tests at the entry

pub arrived-good : (s : SessionState) (l : List ℕ) (d o q : Bytes) → Arrived s l d o q → Good s o q
arrived-good s l d o q a = sound-good s o q a.good a.full a.outbound a.queue

pub arrived_entered : (s : SessionState) (l : List ℕ) (d o q : Bytes) → Arrived s l d o q → Entered s o q
arrived_entered s l d o q a = entered s o q a.good a.full a.outbound a.queue
