-- A turn of a sweep, and its end. Assumes nothing.
use Rattle.std.specs.Prelude.{if◌then◌else◌}
use mathlib.Core.Path.{◌≡◌, refl, sym, ap, ◌∙◌, subst}
use mathlib.Core.Bool.{Bool, true, false}
use mathlib.Core.List.{List, [], ◌∷◌, ◌++◌, append_assoc, append-nil}
use Prim.Native.Nat.{ℕ, ◌+◌, ◌-◌, ◌≤◌, ◌<◌}
use native.Mathlib.Omega.{arith}
use native.Mathlib.Nat.{add-zero, zero-add}
use mir.Val.{bool_byte}
use lib.ListN.{length, take, drop, get_or, set, replicate, length-take, length-drop, length-replicate, length-set}
use lib.Seq.{slice, drop-drop, length-take-le, take_at, take-set-le}
use Rattle.stores.specs.Packed.{cut}
use Rattle.rules.specs.Buffers.{repacked}
use Rattle.stores.specs.Placed.{placed}
use Rattle.stores.proofs.Laws.{length-placed, take_placed_le, drop-placed, drop_placed_ge}
use Rattle.stores.proofs.Packs.{slice-step, slice-none, total-step, total-none, total_snoc, cut-append, cut-same, packed-cut, take_set_snoc, slice_set, repacked_shrunk}
use Rattle.rules.specs.Lists.{Bytes, kept, packed, total}
use Rattle.rules.specs.State as R
use Rattle.rules.specs.State.{body_of}
use Rattle.rules.specs.Acks.{survives}
use Rattle.outbox.specs.declared.Unacked.{Unacked}
use Rattle.outbox.specs.declared.Outbox.{Outbox}
use Rattle.outbox.specs.View.{len_u, unacked, unacked_of, end_u, blank_u, ExactOutbox}
use Rattle.outbox.specs.Records.{survives_u}
use Rattle.outbox.specs.Steps.{Left}
use Rattle.outbox.specs.Sweeps.{Sweep, stay, todo, ends, left, Sweeping, Swept}

module _ (p : R.Unacked → Bool) (m : R.Unacked) (ms : List R.Unacked) where
  kept_in : p m ≡ true → kept p (m ∷ ms) ≡ m ∷ kept p ms
  unfolding kept
  kept_in e = ap (λ (t : Bool). if t then (m ∷ kept p ms) else kept p ms) e

  kept_out : p m ≡ false → kept p (m ∷ ms) ≡ kept p ms
  unfolding kept
  kept_out e = ap (λ (t : Bool). if t then (m ∷ kept p ms) else kept p ms) e

module _ (ack : ℕ) (w : Sweep) (n : ℕ) (s : Bytes) (g : Sweeping w n (length s)) (h : w.next < n) where
  -- the record that is looked at
  abbrev one : Unacked
  one = get_or w.records w.next blank_u

  abbrev body : Bytes
  body = take one.len (drop w.from s)

  rest : List R.Unacked
  rest = kept (survives ack) (cut len_u unacked (slice (w.next + 1) n w.records) (drop (w.from + one.len) s))

  size : total len_u (todo w n) ≡ one.len + total len_u (slice (w.next + 1) n w.records)
  size = total-step len_u w.records w.next n blank_u h (omega arith)

  pub reach : w.from + one.len ≤ length s
  reach =
      let z : total len_u (todo w n) ≡ one.len + total len_u (slice (w.next + 1) n w.records) = size in
      omega arith

  -- the record with its body, and those after it
  first : cut len_u unacked (todo w n) (drop w.from s) ≡ unacked one body ∷ cut len_u unacked (slice (w.next + 1) n w.records) (drop (w.from + one.len) s)
  unfolding cut
  first =
      ap (λ (l : List Unacked). cut len_u unacked l (drop w.from s)) (slice-step w.records w.next n blank_u h (omega arith))
      ∙ ap (λ (x : Bytes). unacked one body ∷ cut len_u unacked (slice (w.next + 1) n w.records) x) (drop-drop one.len w.from s)

  first_out : survives_u ack one ≡ false → kept (survives ack) (cut len_u unacked (todo w n) (drop w.from s)) ≡ rest
  unfolding rest
  first_out e = ap (kept (survives ack)) first ∙ kept_out (survives ack) (unacked one body) _ e

  first_in : survives_u ack one ≡ true → kept (survives ack) (cut len_u unacked (todo w n) (drop w.from s)) ≡ unacked one body ∷ rest
  unfolding rest
  first_in e = ap (kept (survives ack)) first ∙ kept_in (survives ack) (unacked one body) _ e

  -- the records once this one is written where it goes if it stays
  abbrev written : List Unacked
  written = set w.records w.kept one

  todos : slice (w.next + 1) n written ≡ slice (w.next + 1) n w.records
  todos = slice_set w.records w.kept one (w.next + 1) n (omega arith) (omega arith)

  stood : take w.kept written ≡ stay w
  stood = take-set-le w.kept w.records w.kept one (omega arith)

  passed : survives_u ack one ≡ false
      → Swept ack n w s (record { records = written; kept = w.kept; next = w.next + 1; to = w.to; from = w.from + one.len }) s
  unfolding left rest
  passed e =
      let z : total len_u (todo w n) ≡ one.len + total len_u (slice (w.next + 1) n w.records) = size in
      let zn : total len_u (slice (w.next + 1) n written) ≡ total len_u (slice (w.next + 1) n w.records) = ap (total len_u) todos in
      record {
        sweeping =
            record {
              full = length-set w.records w.kept one ∙ g.full;
              few = g.few;
              order = omega arith;
              within = omega arith;
              front = ap (total len_u) stood ∙ g.front;
              down = omega arith;
              room = omega arith;
            };
        step = refl;
        same =
            ap (λ (l : List Unacked). cut len_u unacked l s ++ kept (survives ack) (cut len_u unacked (slice (w.next + 1) n written) (drop (w.from + one.len) s))) stood
            ∙ ap (λ (l : List Unacked). cut len_u unacked (stay w) s ++ kept (survives ack) (cut len_u unacked l (drop (w.from + one.len) s))) todos
            ∙ ap (λ (l : List R.Unacked). cut len_u unacked (stay w) s ++ l) (sym (first_out e));
        ending = omega arith;
        past = refl;
      }

  -- the records and the store once the record and its body have moved down
  module _ (s' : Bytes) (es : s' ≡ placed s w.to body) where
    abbrev next : Sweep
    next = record { records = written; kept = w.kept + 1; next = w.next + 1; to = w.to + one.len; from = w.from + one.len }

    size-body : length body ≡ one.len
    size-body =
        let z : total len_u (todo w n) ≡ one.len + total len_u (slice (w.next + 1) n w.records) = size in
        simp (length-take, length-drop) (omega arith)

    room : w.to + length body ≤ length s
    room =
        let z : total len_u (todo w n) ≡ one.len + total len_u (slice (w.next + 1) n w.records) = size in
        omega (arith, size-body)

    stays : stay next ≡ stay w ++ (one ∷ [])
    stays = take_set_snoc w.records w.kept one (omega arith)

    front : total len_u (stay next) ≡ w.to + one.len
    front = ap (total len_u) stays ∙ total_snoc len_u (stay w) one ∙ ap (λ (k : ℕ). k + one.len) g.front

    same_size : length s' ≡ length s
    same_size = ap length es ∙ length-placed s w.to body room

    after : (k : ℕ) → w.from + one.len ≤ k → drop k s' ≡ drop k s
    after k b = ap (drop k) es ∙ drop_placed_ge s w.to body room k (omega (arith, size-body))

    kept-front : cut len_u unacked (stay next) s' ≡ cut len_u unacked (stay w) s ++ (unacked one body ∷ [])
    unfolding cut
    kept-front =
        let lb : length body ≡ one.len = size-body in
        let ls : length s' ≡ length s = same_size in
        let lr : w.to + length body ≤ length s = room in
        let et : take w.to s' ≡ take w.to s = ap (take w.to) es ∙ take_placed_le s w.to body room w.to (omega arith) in
        let tt' : total len_u (stay w) ≡ w.to = g.front in
        let e2 : cut len_u unacked (stay w) s' ≡ cut len_u unacked (stay w) s =
        cut-same len_u unacked (stay w) s' s (omega arith) (omega arith) (ap (λ (k : ℕ). take k s') tt' ∙ et ∙ ap (λ (k : ℕ). take k s) (sym tt')) in
        let e3 : take one.len (drop w.to s') ≡ body =
        ap (λ (x : Bytes). take one.len (drop w.to x)) es
        ∙ ap (take one.len) (drop-placed s w.to body room)
        ∙ take_at body (drop (w.to + length body) s) one.len lb in
        ap (λ (l : List Unacked). cut len_u unacked l s') stays
        ∙ cut-append len_u unacked (stay w) (one ∷ []) s'
        ∙ ap (λ (k : ℕ). cut len_u unacked (stay w) s' ++ (unacked one (take one.len (drop k s')) ∷ [])) tt'
        ∙ ap (λ (l : List R.Unacked). l ++ (unacked one (take one.len (drop w.to s')) ∷ [])) e2
        ∙ ap (λ (x : Bytes). cut len_u unacked (stay w) s ++ (unacked one x ∷ [])) e3

    kept-rest : kept (survives ack) (cut len_u unacked (todo next n) (drop (w.from + one.len) s')) ≡ rest
    unfolding rest
    kept-rest =
        ap (λ (l : List Unacked). kept (survives ack) (cut len_u unacked l (drop (w.from + one.len) s'))) todos
        ∙ ap (λ (x : Bytes). kept (survives ack) (cut len_u unacked (slice (w.next + 1) n w.records) x)) (after (w.from + one.len) (omega arith))

    stayed : survives_u ack one ≡ true → Swept ack n w s next s'
    unfolding left
    stayed e =
        let z : total len_u (todo w n) ≡ one.len + total len_u (slice (w.next + 1) n w.records) = size in
        let zn : total len_u (todo next n) ≡ total len_u (slice (w.next + 1) n w.records) = ap (total len_u) todos in
        let ls : length s' ≡ length s = same_size in
        record {
          sweeping = record { full = length-set w.records w.kept one ∙ g.full; few = g.few; order = omega arith; within = omega arith; front = front; down = omega arith; room = omega arith };
          step = refl;
          same =
              ap (λ (l : List R.Unacked). l ++ kept (survives ack) (cut len_u unacked (todo next n) (drop (w.from + one.len) s'))) kept-front
              ∙ ap (λ (l : List R.Unacked). (cut len_u unacked (stay w) s ++ (unacked one body ∷ [])) ++ l) kept-rest
              ∙ append_assoc (cut len_u unacked (stay w) s) (unacked one body ∷ []) rest
              ∙ ap (λ (l : List R.Unacked). cut len_u unacked (stay w) s ++ l) (sym (first_in e));
          ending = omega arith;
          past = after (ends w n) (omega arith);
        }

  -- by whether the record stays
  pub swept : (b : Bool) {s' : Bytes} {e k : ℕ} → survives_u ack one ≡ b → s' ≡ (if b then placed s w.to body else s)
      → e ≡ (if b then w.to + one.len else w.to) → k ≡ (if b then w.kept + 1 else w.kept)
      → Swept ack n w s (record { records = written; kept = k; next = w.next + 1; to = e; from = w.from + one.len }) s'
  swept true {s'} {e} {k} is es ee ek = subst (λ (x : ℕ). Swept ack n w s (record { records = written; kept = x; next = w.next + 1; to = e; from = w.from + one.len }) s') (sym ek)
      (subst (λ (x : ℕ). Swept ack n w s (record { records = written; kept = w.kept + 1; next = w.next + 1; to = x; from = w.from + one.len }) s') (sym ee) (stayed s' es is))
  swept false {s'} {e} {k} is es ee ek = subst (λ (x : ℕ). Swept ack n w s (record { records = written; kept = x; next = w.next + 1; to = e; from = w.from + one.len }) s') (sym ek)
      (subst (λ (x : ℕ). Swept ack n w s (record { records = written; kept = w.kept; next = w.next + 1; to = x; from = w.from + one.len }) s') (sym ee)
      (subst (λ (x : Bytes). Swept ack n w s (record { records = written; kept = w.kept; next = w.next + 1; to = w.to; from = w.from + one.len }) x) (sym es) (passed is)))

-- how many records stay, with one more that stays or not
pub counted : (b : Bool) (n : ℕ) {m : ℕ} → m ≡ bool_byte b → n + m ≡ (if b then n + 1 else n)
counted true n e = ap (λ (k : ℕ). n + k) e
counted false n e = ap (λ (k : ℕ). n + k) e ∙ add-zero n

-- what the loop keeps that sweeps from w₀ and s₀ on
pub record Turns (ack n : ℕ) (w₀ : Sweep) (s₀ : Bytes) (w : Sweep) (s : Bytes) : Type 0 where
  pub sweeping : Sweeping w n (length s)
  pub same : left ack n w s ≡ left ack n w₀ s₀
  pub ending : ends w n ≡ ends w₀ n
  pub past : drop (ends w₀ n) s ≡ drop (ends w₀ n) s₀
  pub size : length s ≡ length s₀

pub turned : {ack n : ℕ} {w₀ w r : Sweep} {s₀ s s' : Bytes} → Turns ack n w₀ s₀ w s → Swept ack n w s r s' → length s' ≡ length s → Turns ack n w₀ s₀ r s'
turned {s = s} {s' = s'} t p l =
    record {
      sweeping = p.sweeping;
      same = p.same ∙ t.same;
      ending = p.ending ∙ t.ending;
      past = ap (λ (k : ℕ). drop k s') (sym t.ending) ∙ p.past ∙ ap (λ (k : ℕ). drop k s) t.ending ∙ t.past;
      size = l ∙ t.size;
    }

module _ (ack : ℕ) (x : Outbox) (s₀ : Bytes) (exact : ExactOutbox x (length s₀)) where
  abbrev pub start : Sweep
  start = record { records = x.records; kept = 0; next = 0; to = 0; from = 0 }

  pub starts : Turns ack x.count start s₀ start s₀
  unfolding total
  starts =
      record {
        sweeping = record { full = exact.full; few = exact.few; order = omega arith; within = omega arith; front = refl; down = omega arith; room = omega arith };
        same = refl;
        ending = refl;
        past = refl;
        size = refl;
      }

  module _ (w : Sweep) (s : Bytes) (t : Turns ack x.count start s₀ w s) (stop : x.count ≤ w.next)
      (s' : Bytes) (es : s' ≡ placed s w.to (replicate (w.from - w.to) 0)) where
    -- where the bodies ended before
    end : w.from ≡ end_u x
    end =
        let z : total len_u (todo w x.count) ≡ 0 = total-none len_u w.records w.next x.count stop in
        let e : ends w x.count ≡ 0 + end_u x = t.ending in
        omega arith

    ms : List R.Unacked
    ms = kept (survives ack) (unacked_of x s₀)

    now_left : cut len_u unacked (stay w) s ≡ ms
    unfolding ms left unacked_of kept cut
    now_left =
        sym (append-nil (cut len_u unacked (stay w) s))
        ∙ ap (λ (l : List Unacked). cut len_u unacked (stay w) s ++ kept (survives ack) (cut len_u unacked l (drop w.from s))) (sym (slice-none w.records w.next x.count stop))
        ∙ t.same

    zeros : length {A = ℕ} (replicate (w.from - w.to) 0) ≡ w.from - w.to
    zeros = length-replicate (w.from - w.to) 0

    inside : w.to + length {A = ℕ} (replicate (w.from - w.to) 0) ≤ length s
    inside = omega (arith, zeros, t.sweeping.down, t.sweeping.room)

    cleared : length s' ≡ length s₀
    cleared = ap length es ∙ length-placed s w.to (replicate (w.from - w.to) 0) inside ∙ t.size

    -- clearing touches no body that stays
    held : cut len_u unacked (stay w) s' ≡ ms
    held =
        let f : total len_u (stay w) ≡ w.to = t.sweeping.front in
        let r : w.to + length {A = ℕ} (replicate (w.from - w.to) 0) ≤ length s = inside in
        let l : length s' ≡ length s₀ = cleared in
        let e : take w.to s' ≡ take w.to s = ap (take w.to) es ∙ take_placed_le s w.to (replicate (w.from - w.to) 0) inside w.to (omega arith) in
        cut-same len_u unacked (stay w) s' s (omega (arith, t.size)) (omega arith) (ap (λ (k : ℕ). take k s') f ∙ e ∙ ap (λ (k : ℕ). take k s) (sym f)) ∙ now_left

    bytes : s' ≡ repacked (end_u x) (packed body_of ms) s₀
    unfolding placed
    bytes =
        let f : total len_u (stay w) ≡ w.to = t.sweeping.front in
        let r : w.to + length {A = ℕ} (replicate (w.from - w.to) 0) ≤ length s = inside in
        let lt : length (take w.to s) ≡ w.to = length-take-le w.to s (omega arith) in
        let e : packed body_of ms ≡ take w.to s =
        ap (packed body_of) (sym now_left) ∙ packed-cut len_u unacked body_of (λ u b. refl) (stay w) s ∙ ap (λ (k : ℕ). take k s) f in
        let d : w.to ≤ w.from = t.sweeping.down in
        let en : w.from ≡ end_u x = end in
        let z : ends start x.count ≡ end_u x = zero-add (end_u x) in
        let past : drop (end_u x) s ≡ drop (end_u x) s₀ = ap (λ (k : ℕ). drop k s) (sym z) ∙ t.past ∙ ap (λ (k : ℕ). drop k s₀) z in
        let eg : w.from - w.to ≡ end_u x - length (take w.to s) = omega arith in
        let ed : w.to + length {A = ℕ} (replicate (w.from - w.to) 0) ≡ end_u x = omega (arith, zeros) in
        es
        ∙ ap (λ (k : ℕ). take w.to s ++ (replicate (w.from - w.to) 0 ++ drop k s)) ed
        ∙ ap (λ (l : Bytes). take w.to s ++ (replicate (w.from - w.to) 0 ++ l)) past
        ∙ ap (λ (k : ℕ). take w.to s ++ (replicate k 0 ++ drop (end_u x) s₀)) eg
        ∙ sym (repacked_shrunk (end_u x) (take w.to s) s₀ (omega arith))
        ∙ ap (λ (b : Bytes). repacked (end_u x) b s₀) (sym e)

    pub finished : Left x s₀ (kept (survives ack) (unacked_of x s₀)) (record { next = x.next; records = w.records; count = w.kept }) s'
    unfolding ms unacked_of
    finished =
        let f : total len_u (stay w) ≡ w.to = t.sweeping.front in
        let en : w.from ≡ end_u x = end in
        let l : length s' ≡ length s₀ = cleared in
        record {
          repacked =
              record {
                unacked = held;
                exact =
                    record {
                      full = t.sweeping.full;
                      few = omega (arith, t.sweeping);
                      small = omega (arith, t.sweeping.down, exact.small);
                      room = omega (arith, exact.room);
                    };
                bytes = bytes;
                size = l;
              };
          next = refl;
        }
