-- A refusal that empties the queue and lists code 7. Assumes nothing.
use Rattle.std.specs.Prelude.{if◌then◌else◌, Option, None, Some}
use mathlib.Core.Path.{◌≡◌, refl, sym, ap, ◌∙◌, subst}
use mathlib.Core.Bool.{Bool, true, false}
use mathlib.Core.List.{List, [], ◌∷◌, ◌++◌}
use Prim.Native.Nat.{ℕ, ◌+◌, ◌*◌}
use native.Mathlib.Omega.{arith}
use native.Mathlib.Nat.{add-zero}
use lib.ListN.{length}
use Rattle.stores.specs.Placed.{placed}
use Rattle.stores.proofs.Laws.{placed-none}
use Rattle.rules.specs.declared.Refusal.{Refusal}
use Rattle.rules.specs.Answers.{refusal_number}
use Rattle.rules.specs.Lists.{Bytes, packed}
use Rattle.rules.specs.State as R
use Rattle.rules.specs.State.{State, body_of, frame_body, is_channel, queue_is, failed_is}
use Rattle.rules.specs.Events.{Event, failure, handed, listed}
use Rattle.rules.specs.Progress.{Progress, goes, stops, broken, failing, forgiven}
use Rattle.rules.specs.Buffers.{flat, repacked}
use Rattle.rules.proofs.Progress.{Leaves}
use Rattle.events.specs.Written.{ListedIn, Listed, Books, books, write, Within, Final, final, ends}
use Rattle.events.proofs.Laws.{books_cong, write-append}
use Rattle.outbox.specs.declared.Outbox.{Outbox}
use Rattle.outbox.specs.View.{end_u, unacked_of}
use Rattle.outbox.proofs.View.{stays-packed}
use Rattle.queue.specs.declared.Queue.{Queue}
use Rattle.queue.specs.View.{end_q, frames_of, ExactQueue}
use Rattle.numbers.specs.declared.Numbers.{Numbers}
use Rattle.numbers.specs.Seats.{in_use, ExactNumbers}
use Rattle.peer_session.specs.declared.SessionState.{SessionState}
use Rattle.peer_session.specs.View.{view, state_of, ExactRest, Exact}
use Rattle.peer_session.specs.Breaks.{Broken}
use Rattle.delivery.specs.declared.Turn.{Turn}
use Rattle.delivery.specs.Turns.{during}
use Rattle.draining.specs.declared.Ended.{Ended}
use Rattle.draining.specs.Turns.{Advances}
use Rattle.draining.specs.Ends.{Stores, Fails, Abandoning, Abandons}
use Rattle.draining.proofs.Settled.{advanced-view, advanced-rest, advanced-bytes}

-- ---- on what is under way

module _ (us : List R.Unacked) where
  -- events that hand no body over, in the books
  pub listed-books : {es : List Event} {l l' : List ℕ} {n n' : ℕ} (d : Bytes) (at : ℕ) → packed handed es ≡ [] → ListedIn us es l n l' n'
      → write us es (books l n d at) ≡ books l' n' d at
  unfolding write
  listed-books {es} {l} {l'} {n} {n'} d at e h =
      books_cong (sym (h.words at)) (sym h.count)
      (ap (λ (x : Bytes). placed d at x) e ∙ placed-none d at)
      (ap (λ (x : Bytes). at + length x) e ∙ add-zero at)

  pub failing-goes : (p : Progress) (b b' : Books) (x : State) → final us p b ≡ ends None x b' → final us (failing p) b ≡ ends None x b'
  unfolding failing
  failing-goes (goes s es) b b' x e = e
  failing-goes (stops r s es) b b' x e =
      let y : Some r ≡ None = ap (λ (z : Final). z.stop) e in
      let z : ◌≡◌ {A = ℕ} 0 1 = cc in
      absurd (omega arith)

  pub failing-stops : (p : Progress) (b b' : Books) (r : Refusal) (x : State) → Within b → final us p b ≡ ends (Some r) x b'
      → final us (failing p) b ≡ ends (Some r) (broken x) (write us (failure r ∷ []) b')
  unfolding failing
  failing-stops (goes s es) b b' r x w e =
      let y : None ≡ Some r = ap (λ (z : Final). z.stop) e in
      let z : ◌≡◌ {A = ℕ} 0 1 = cc in
      absurd (omega arith)
  failing-stops (stops q s es) b b' r x w e =
      let y : Some q ≡ Some r = ap (λ (z : Final). z.stop) e in
      let f : q ≡ r = cc in
      let g : s ≡ x = ap (λ (z : Final). z.state) e in
      let k : write us es b ≡ b' = ap (λ (z : Final). z.books) e in
      ap (ends (Some q) (broken s)) (write-append us es (failure q ∷ []) b w)
      ∙ ap (λ (z : Refusal). ends (Some z) (broken s) (write us (failure z ∷ []) (write us es b))) f
      ∙ ap (λ (z : State). ends (Some r) (broken z) (write us (failure r ∷ []) (write us es b))) g
      ∙ ap (λ (z : Books). ends (Some r) (broken x) (write us (failure r ∷ []) z)) k

  -- the same without the refusal
  pub forgiven-final : (p : Progress) (b b' : Books) (st : Option Refusal) (x : State) → final us (failing p) b ≡ ends st x b' → final us (forgiven p) b ≡ ends None x b'
  unfolding failing forgiven
  forgiven-final (goes s es) b b' st x e =
      ap (λ (z : State). ends None z (write us es b)) (ap (λ (z : Final). z.state) e) ∙ ap (ends None x) (ap (λ (z : Final). z.books) e)
  forgiven-final (stops r s es) b b' st x e =
      ap (λ (z : State). ends None z (write us (es ++ (failure r ∷ [])) b)) (ap (λ (z : Final). z.state) e) ∙ ap (ends None x) (ap (λ (z : Final). z.books) e)

  -- what any progress leaves is left at its end
  pub leaves-final : (P : State → Type 0) (p : Progress) (b b' : Books) (st : Option Refusal) (x : State) → Leaves P p → final us p b ≡ ends st x b' → P x
  unfolding Leaves
  leaves-final P (goes s es) b b' st x h e = subst P (ap (λ (z : Final). z.state) e) h
  leaves-final P (stops r s es) b b' st x h e = subst P (ap (λ (z : Final). z.state) e) h

-- whatever is queued goes
pub broken-queue : (fs : List R.Frame) (s : State) → broken (queue_is fs s) ≡ broken s
unfolding broken
broken-queue fs s = go (is_channel s.stage.mode)
  where
    go : (b : Bool) → queue_is [] (if b then failed_is true (queue_is fs s) else queue_is fs s) ≡ queue_is [] (if b then failed_is true s else s)
    go true = refl
    go false = refl

-- ---- fail

failure-listed : (x : Refusal) (n : ℕ) (l l' : List ℕ) (m : ℕ) → m ≡ refusal_number x → l' ≡ placed l (4 * n) (7 ∷ m ∷ 0 ∷ 0 ∷ []) → Listed (failure x ∷ []) l n l' (n + 1)
unfolding flat listed
failure-listed x n l l' m e h us =
    record { count = refl; words = λ at. h ∙ ap (λ (k : ℕ). placed l (4 * n) (7 ∷ k ∷ 0 ∷ 0 ∷ [])) e }

pub fails : (x : Refusal) (s : SessionState) (l : List ℕ) (n : ℕ) (q : Bytes) (r : SessionState) (m : ℕ) (l' : List ℕ) (q' : Bytes) → Broken s q r q' → m ≡ refusal_number x
    → l' ≡ placed l (4 * n) (7 ∷ m ∷ 0 ∷ 0 ∷ []) → Fails x s l n q (record { session = r; events = n + 1; stop = Some x }) l' q'
fails x s l n q r m l' q' h e k =
    record { does = h.does; listed = failure-listed x n l l' m e k; stop = refl; exact = h.exact; cleared = h.cleared; outbox = h.outbox }

-- ---- on its own, and after a turn

module _ {x : Refusal} {s : SessionState} {l : List ℕ} {n : ℕ} {q : Bytes} {r : Ended} {l' : List ℕ} {q' : Bytes} (h : Fails x s l n q r l' q') where
  pub fails_final : (us : List R.Unacked) (p : Progress) (b : Books) (d : Bytes) (at : ℕ) (o : Bytes) (fs : List R.Frame) → Within b
      → final us p b ≡ ends (Some x) (view fs s o) (books l n d at)
      → final us (failing p) b ≡ ends r.stop (state_of r.session o q') (books l' r.events d at)
  unfolding packed
  fails_final us p b d at o fs w e =
      failing-stops us p b (books l n d at) x (view fs s o) w e
      ∙ ap (λ (z : State). ends (Some x) z (write us (failure x ∷ []) (books l n d at))) (broken-queue fs (state_of s o q) ∙ sym (h.does o))
      ∙ ap (ends (Some x) (state_of r.session o q')) (listed-books us d at refl (h.listed us))
      ∙ ap (λ (z : Option Refusal). ends z (state_of r.session o q') (books l' r.events d at)) (sym h.stop)

  emptied : q' ≡ repacked (end_q s.queue) (packed frame_body (frames_of r.session.queue q')) q
  emptied = h.cleared.bytes ∙ ap (λ (fs : List R.Frame). repacked (end_q s.queue) (packed frame_body fs) q) (sym h.cleared.frames)

  pub fails_stores : (o : Bytes) → Exact s (length o) (length q) → Stores s (end_q s.queue) o q r.session o q'
  fails_stores o e =
      record {
        exact = h.exact (length o) e;
        outbound = stays-packed s.outbox o e.outbox ∙ ap (λ (z : Outbox). repacked (end_u s.outbox) (packed body_of (unacked_of z o)) o) (sym h.outbox);
        queue = emptied;
      }

module _ {t : Turn} {w : Numbers} {s : SessionState} {o : Bytes} {r : SessionState} {o' : Bytes} (a : Advances t w s o r o') where
  pub advances-view : (fs gs : List R.Frame) → view fs r o' ≡ during (view gs s o) fs (in_use w) t
  advances-view fs gs = ap (λ (z : SessionState). view fs z o') a.is ∙ advanced-view t w s o r.outbox o' a.settles fs gs

  pub advances-queue : r.queue ≡ s.queue
  advances-queue = ap (λ (z : SessionState). z.queue) a.is

  pub advances-queued : {size k : ℕ} → Exact s k size → ExactQueue r.queue size
  advances-queued {size} e = subst (λ (z : Queue). ExactQueue z size) (sym advances-queue) e.queued

  pub advances-exact : (size : ℕ) → Exact s (length o) size → ExactNumbers w → Exact r (length o') size
  advances-exact size e k =
      record {
        outbox = a.settles.repacked.exact;
        queued = advances-queued e;
        rest = subst ExactRest (sym a.is) (advanced-rest t w s o r.outbox o' a.settles e.rest k);
      }

pub abandons : {x : Refusal} {t : Turn} {w : Numbers} {s : SessionState} {l : List ℕ} {n : ℕ} {o q : Bytes} {r₁ : SessionState} {r : Ended} {l' : List ℕ} {o' q' : Bytes}
    → Abandoning t w s n (length l) (length o) (length q) → Advances t w s o r₁ o' → Fails x r₁ l n q r l' q' → Abandons x t w s l n o q r l' o' q'
abandons {x} {t} {w} {s} {l} {n} {o} {q} {r₁} {r} {l'} {o'} {q'} pre a h =
    let f : Stores r₁ (end_q r₁.queue) o' q r.session o' q' = fails_stores h o' (advances-exact a (length q) pre.exact pre.waits) in
    record {
      does = λ us p b gs d at k e.
          fails_final h us p b d at o' gs k (e ∙ ap (λ (z : State). ends (Some x) z (books l n d at)) (sym (advances-view a gs (frames_of s.queue q))));
      stores =
          record {
            exact = f.exact;
            outbound =
                advanced-bytes t w s o r₁.outbox o' a.settles
                ∙ ap (λ (z : Outbox). repacked (end_u s.outbox) (packed body_of (unacked_of z o')) o) (sym h.outbox);
            queue = f.queue ∙ ap (λ (z : Queue). repacked (end_q z) (packed frame_body (frames_of r.session.queue q')) q) (advances-queue a);
          };
    }

-- ---- the books of a call that has listed nothing yet

pub fresh-books : (l : List ℕ) (d : Bytes) → Within (books l 0 d 0)
fresh-books l d = record { listed = omega arith; filled = omega arith }
