-- The promise, test by test, and how a call that follows the rule book meets it. Assumes nothing.
use mathlib.Core.Path.{◌≡◌, refl, sym, ap, ◌∙◌}
use mathlib.Core.Bool.{Bool, true, false}
use mathlib.Core.List.{List, [], ◌++◌}
use Prim.Native.Nat.{ℕ}
use native.Mathlib.Nat.{zero-add}
use lib.ListN.{length, take, drop}
use Rattle.stores.specs.Placed.{placed}
use Rattle.rules.specs.declared.Answer.{Answer}
use Rattle.rules.specs.declared.Refusal.TheVariants.{ShortBuffer, UnknownCode, BadRecord}
use Rattle.rules.specs.Lists.{Bytes, packed}
use Rattle.rules.specs.State.{Unacked, State, body_of, frame_body}
use Rattle.rules.specs.Events.{Event, handed, listed}
use Rattle.rules.specs.Progress.{outcome}
use Rattle.rules.specs.Calls.{Call, step}
use Rattle.rules.proofs.Lists.{length-packed}
use Rattle.rules.proofs.Buffers.{repacked-same}
use Rattle.rules.specs.Buffers.{Lent, taken_by, short, wrong_code, over, flat, list_after, delivery_after, repacked, outbound_end, queue_end, queue_reach, outbound_after, queue_after, where_taken, lent_after}
use Rattle.events.specs.Written.{ListedIn}
use Rattle.peer_session.specs.declared.SessionState.{SessionState}
use Rattle.peer_session.specs.View.{Held, held, encode, state_of}
use Rattle.peer_session.specs.Sound.{sound_of}
use Rattle.session.specs.Promise.{exit, lent, unchanged, follows, promise}

-- ---- test by test

module _ (c : Call) (s : SessionState) (l : Lent) where
  pub promise-short : short (taken_by c) l ≡ true → promise c s l ≡ unchanged ShortBuffer s l
  unfolding promise
  promise-short e = rw e

  module _ (long : short (taken_by c) l ≡ false) where
    pub promise-code : wrong_code c ≡ true → promise c s l ≡ unchanged UnknownCode s l
    unfolding promise
    promise-code e = rw (long, e)

    module _ (known : wrong_code c ≡ false) where
      pub promise_unsound : sound_of s ≡ false → promise c s l ≡ unchanged BadRecord s l
      unfolding promise
      promise_unsound e = rw (long, known, e)

      pub promise-follows : sound_of s ≡ true → promise c s l ≡ follows c (state_of s l.outbound l.queue) l
      unfolding promise
      promise-follows e = rw (long, known, e)

-- ---- words, and bytes that stay

-- events listed from the front are the list after the call
pub list_written : {us : List Unacked} {es : List Event} {l l' : List ℕ} {n : ℕ} → ListedIn us es l 0 l' n → l' ≡ over (flat (listed us 0 es)) l
unfolding placed
list_written {us} {es} {l} h =
    h.words 0 ∙ ap (λ (k : ℕ). flat (listed us 0 es) ++ drop k l) (zero-add (length (flat (listed us 0 es))))

pub exit_cong : {h k : Held} {a b : Answer} {m n : ℕ} {x y : Lent} → h ≡ k → a ≡ b → m ≡ n → x ≡ y → exit h a m x ≡ exit k b n y
exit_cong p q r s = cc

pub lent_cong : {a b : List ℕ} {c d e f g h : Bytes} → a ≡ b → c ≡ d → e ≡ f → g ≡ h → lent a c e g ≡ lent b d f h
lent_cong p q r s = cc

-- ---- a call that follows the rule book: what it leaves, answers and lists, and each buffer

pub record Follows (c : Call) (t : State) (l : Lent) (r : SessionState) (a : Answer) (n : ℕ) (l' : Lent) : Type 0 where
  pub left : State
  pub events : List Event
  pub does : step c t ≡ outcome left a events
  pub session : held r ≡ encode left
  pub count : n ≡ length events
  pub list : l'.list ≡ where_taken (taken_by c).list (over (flat (listed left.outbox.unacked 0 events)) l.list) l.list
  pub delivery : l'.delivery ≡ where_taken (taken_by c).delivery (over (packed handed events) l.delivery) l.delivery
  pub outbound : l'.outbound ≡ where_taken (taken_by c).outbound (repacked (outbound_end t) (packed body_of left.outbox.unacked) l.outbound) l.outbound
  pub queue : l'.queue ≡ where_taken (taken_by c).queue (repacked (queue_reach c t) (packed frame_body left.inbox.queue) l.queue) l.queue

pub follows_is : {c : Call} {t : State} {l : Lent} {r : SessionState} {a : Answer} {n : ℕ} {l' : Lent} → short (taken_by c) l ≡ false → Follows c t l r a n l'
    → exit (held r) a n l' ≡ follows c t l
unfolding follows lent_after list_after delivery_after outbound_after queue_after
follows_is {c} {t} {l} {r} {a} {n} {l'} long f =
    rw (long, f.does) (exit_cong f.session refl f.count (lent_cong f.list f.delivery f.outbound f.queue))

-- ---- what lies in the buffers as it should: each store begins with its bodies

pub record Stored (t : State) (o q : Bytes) : Type 0 where
  pub outbound : packed body_of t.outbox.unacked ≡ take (outbound_end t) o
  pub queue : packed frame_body t.inbox.queue ≡ take (queue_end t) q

pub outbound-same : {t : State} {o q : Bytes} → Stored t o q → repacked (outbound_end t) (packed body_of t.outbox.unacked) o ≡ o
outbound-same {t} {o} h = repacked-same (outbound_end t) (packed body_of t.outbox.unacked) o h.outbound (length-packed body_of t.outbox.unacked)

pub queue-same : {t : State} {o q : Bytes} → Stored t o q → repacked (queue_end t) (packed frame_body t.inbox.queue) q ≡ q
queue-same {t} {o} {q} h = repacked-same (queue_end t) (packed frame_body t.inbox.queue) q h.queue (length-packed frame_body t.inbox.queue)

same_taken : (b : Bool) (x y : List ℕ) → x ≡ y → y ≡ where_taken b x y
same_taken true x y e = sym e
same_taken false x y e = refl

-- a refusal that changes nothing
pub refuses : {c : Call} {s : SessionState} {l : Lent} {a : Answer} (t : State) → held s ≡ encode t → Stored t l.outbound l.queue
    → queue_reach c t ≡ queue_end t → step c t ≡ outcome t a [] → Follows c t l s a 0 l
unfolding listed flat packed
refuses {c} {s} {l} {a} t h st r e =
    record {
      left = t;
      events = [];
      does = e;
      session = h;
      count = refl;
      list = same_taken (taken_by c).list l.list l.list refl;
      delivery = same_taken (taken_by c).delivery l.delivery l.delivery refl;
      outbound =
          same_taken (taken_by c).outbound _ l.outbound
          (outbound-same st);
      queue =
          same_taken (taken_by c).queue _ l.queue
          (ap (λ (n : ℕ). repacked n (packed frame_body t.inbox.queue) l.queue) r ∙ queue-same st);
    }
