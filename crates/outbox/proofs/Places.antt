-- Where the body of a number lies, by the records and by the rule book. Assumes nothing.
use Rattle.std.specs.Prelude.{if◌then◌else◌, Option, Some, None}
use mathlib.Core.Path.{◌≡◌, refl, sym, ap, ◌∙◌}
use mathlib.Core.Bool.{Bool, true, false}
use mathlib.Core.List.{List, [], ◌∷◌}
use mathlib.Core.Option.{some}
use Prim.Native.Nat.{ℕ, ◌+◌, ◌-◌, ◌≤◌, ◌<◌}
use native.Mathlib.Omega.{arith}
use native.Mathlib.Nat.{add_assoc, add-zero}
use native.Mathlib.Numerals.{add-one}
use lib.ListN.{length, take, drop, get_or, length-drop, drop_of_length-le}
use lib.Seq.{drop-cons, length-take-le}
use lib.Dec.{eqb}
use borrow.Author.Tests.{eq-eqb, ne_eqb}
use Rattle.stores.specs.Packed.{cut}
use Rattle.rules.specs.declared.Answer.TheVariants.{Held}
use Rattle.rules.specs.Lists.{Bytes, first, before, total}
use Rattle.rules.specs.State.{size_of, is_number, held, start_of}
use Rattle.rules.specs.Replay.{place}
use Rattle.outbox.specs.declared.Unacked.{Unacked}
use Rattle.outbox.specs.declared.Outbox.{Outbox}
use Rattle.outbox.specs.declared.Place.{Place}
use Rattle.outbox.specs.View.{len_u, unacked, used_u, unacked_of, end_u, blank_u, ExactOutbox}
use Rattle.outbox.specs.Records.{place_u, answer_of}

-- a place, by its parts
abbrev pub place_at : ℕ → ℕ → Place
place_at start len = record { start = start; len = len }

-- ---- a loop that looks for a number

module _ (us : List Unacked) (i k at : ℕ) where
  module _ (h : i < length us) where
    drop-step : drop i us ≡ get_or us i blank_u ∷ drop (i + 1) us
    drop-step = drop-cons us i blank_u h ∙ ap (λ (j : ℕ). get_or us i blank_u ∷ drop j us) (sym (add-one i))

    pub total-later : total len_u (drop i us) ≡ (get_or us i blank_u).len + total len_u (drop (i + 1) us)
    unfolding total
    total-later = ap (total len_u) drop-step

    place-step : place_u k at (drop i us)
        ≡ (if eqb (get_or us i blank_u).number k then Some (place_at at (get_or us i blank_u).len) else place_u k (at + (get_or us i blank_u).len) (drop (i + 1) us))
    unfolding place_u
    place-step = ap (place_u k at) drop-step

    pub place_here : (get_or us i blank_u).number ≡ k → Some (place_at at (get_or us i blank_u).len) ≡ place_u k at (drop i us)
    place_here e = sym (rw (eq-eqb _ _ e) at place-step)

    pub place-later : ((get_or us i blank_u).number ≡ k → ⊥) → place_u k (at + (get_or us i blank_u).len) (drop (i + 1) us) ≡ place_u k at (drop i us)
    place-later e = sym (rw (ne_eqb _ _ e) at place-step)

  pub place_none : length us ≤ i → None ≡ place_u k at (drop i us)
  unfolding place_u
  place_none h = sym (ap (place_u k at) (drop_of_length-le us h))

-- ---- the rule book's place

place-cut : (n at : ℕ) (us : List Unacked) (s : Bytes) → total len_u us ≤ length s
    → answer_of (place_u n at us) ≡ place (first (is_number n) (cut len_u unacked us s)) (at + before size_of (is_number n) (cut len_u unacked us s))
unfolding place_u first before cut total
place-cut n at [] s h = refl
place-cut n at (u ∷ us) s h =
    let lt : length (take u.len s) ≡ u.len = length-take-le u.len s (omega arith) in
    let ld : length (drop u.len s) ≡ length s - u.len = length-drop u.len s in
    go (eqb u.number n) lt (place-cut n (at + u.len) us (drop u.len s) (omega arith))
  where
    go : (t : Bool) → length (take u.len s) ≡ u.len
        → answer_of (place_u n (at + u.len) us) ≡ place (first (is_number n) (cut len_u unacked us (drop u.len s))) (at + u.len + before size_of (is_number n) (cut len_u unacked us (drop u.len s)))
        → answer_of (if t then Some (place_at at u.len) else place_u n (at + u.len) us)
        ≡ place (if t then some (unacked u (take u.len s)) else first (is_number n) (cut len_u unacked us (drop u.len s)))
        (at + (if t then 0 else (length (take u.len s) + before size_of (is_number n) (cut len_u unacked us (drop u.len s)))))
    go true e r = ap (λ (k : ℕ). Held k u.len) (sym (add-zero at)) ∙ ap (Held (at + 0)) (sym e)
    go false e r =
        r
        ∙ ap (place (first (is_number n) (cut len_u unacked us (drop u.len s))))
        (add_assoc at u.len (before size_of (is_number n) (cut len_u unacked us (drop u.len s)))
        ∙ ap (λ (k : ℕ). at + (k + before size_of (is_number n) (cut len_u unacked us (drop u.len s)))) (sym e))

pub place-unacked : (n : ℕ) (x : Outbox) (o : Bytes) → end_u x ≤ length o
    → answer_of (place_u n 0 (used_u x)) ≡ place (held n (unacked_of x o)) (start_of n (unacked_of x o))
unfolding unacked_of held start_of
place-unacked n x o h =
    place-cut n 0 (used_u x) o h
    ∙ ap (place (first (is_number n) (cut len_u unacked (used_u x) o))) (omega arith)

-- a place lies before the end of the bodies
place-within : (n at : ℕ) (us : List Unacked) (q : Place) → place_u n at us ≡ Some q → q.start + q.len ≤ at + total len_u us
unfolding place_u total
place-within n at [] q e = let z : ◌≡◌ {A = ℕ} 0 1 = cc in absurd (omega arith)
place-within n at (u ∷ us) q e = go (eqb u.number n) (place-within n (at + u.len) us q) e
  where
    go : (t : Bool) → (place_u n (at + u.len) us ≡ Some q → q.start + q.len ≤ at + u.len + total len_u us)
        → (if t then Some (place_at at u.len) else place_u n (at + u.len) us) ≡ Some q → q.start + q.len ≤ at + (u.len + total len_u us)
    go true g f =
        let p : place_at at u.len ≡ q = cc in
        omega (arith, ap (λ (z : Place). z.start) p, ap (λ (z : Place). z.len) p)
    go false g f = omega (arith, g f)

pub part-fits : (n : ℕ) (x : Outbox) (s : Bytes) {p : Option Place} → p ≡ place_u n 0 (used_u x) → ExactOutbox x (length s) → (q : Place) → p ≡ Some q
    → (q.start ≤ length s) × (q.len ≤ length s - q.start)
part-fits n x s is ex q e =
    let w : q.start + q.len ≤ 0 + total len_u (used_u x) = place-within n 0 (used_u x) q (sym is ∙ e) in
    let i : end_u x ≤ 65536 = ex.small in
    let j : 65536 ≤ length s = ex.room in (omega arith, omega arith)
