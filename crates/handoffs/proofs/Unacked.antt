-- What is asked of the unacked messages, whose numbers rise, by their records. Assumes nothing.
use Rattle.std.specs.Prelude.{if◌then◌else◌, Option, Some, None}
use mathlib.Core.Path.{◌≡◌, refl, sym, ap, ◌∙◌}
use mathlib.Core.Bool.{Bool, true, false, ◌&&◌, ◌||◌}
use mathlib.Core.List.{List, [], ◌∷◌}
use Prim.Native.Nat.{ℕ, zero, suc, ◌+◌, ◌≤◌, ◌<◌}
use native.Mathlib.Omega.{arith}
use lib.ListN.{length, take, drop, get_or}
use lib.Seq.{drop-drop}
use lib.Dec.{leb, ltb, eqb}
use borrow.Author.Tests.{lt-leb, leb-false, ne_eqb, eqb-true, ltb-true}
use Rattle.std.proofs.lemmas.Bool.{and_parts}
use Rattle.stores.specs.Packed.{cut}
use Rattle.rules.specs.Lists.{Bytes, any, same, rising}
use Rattle.rules.specs.State as R
use Rattle.rules.specs.Handoff.{numbered_to}
use Rattle.outbox.specs.declared.Unacked.{Unacked}
use Rattle.outbox.specs.declared.Outbox.{Outbox}
use Rattle.outbox.specs.declared.Place.{Place}
use Rattle.outbox.specs.View.{num_u, len_u, unacked, used_u, unacked_of, blank_u}
use Rattle.outbox.specs.Records.{place_u}
use Rattle.outbox.specs.Sound.{sound_outbox_of}
use Rattle.outbox.proofs.Places.{place_at}
use Rattle.outbox.proofs.View.{sound_facts}
use Rattle.handoffs.specs.Commands.{carries_body}

-- a test that no number above n passes finds nothing among numbers that rise from there
none-past : (p : R.Unacked → Bool) (n : ℕ) → ((u : R.Unacked) → n < u.number → p u ≡ false) → (m : ℕ) (us : List Unacked) (s : Bytes) → n ≤ m
    → rising num_u m us ≡ true → any p (cut len_u unacked us s) ≡ false
unfolding rising cut any
none-past p n f m [] s h r = refl
none-past p n f m (u ∷ us) s h r =
    let a = and_parts (ltb m u.number) (rising num_u u.number us) r in
    let k : m < u.number = ltb-true _ _ a.0 in
    let e : p (unacked u (take u.len s)) ≡ false = f (unacked u (take u.len s)) (omega arith) in
    rw (e) (none-past p n f u.number us (drop u.len s) (omega arith) a.1)

-- ---- whether a number up to n is unacked: the first one is the lowest

to-first : (n m : ℕ) (u : Unacked) (us : List Unacked) (s : Bytes) → rising num_u m (u ∷ us) ≡ true
    → leb u.number n ≡ any (numbered_to n) (cut len_u unacked (u ∷ us) s)
unfolding rising cut any
to-first n m u us s r = go (leb u.number n) (λ e. omega (arith, leb-false u.number n e))
  where
    go : (b : Bool) → (b ≡ false → n ≤ u.number) → b ≡ (b || any (numbered_to n) (cut len_u unacked us (drop u.len s)))
    go true h = refl
    go false h =
        sym
        (none-past (numbered_to n) n (λ v k. lt-leb v.number n k) u.number us (drop u.len s) (h refl)
        (and_parts (ltb m u.number) (rising num_u u.number us) r).1)

to_front : (n count : ℕ) (us : List Unacked) (s : Bytes) → 0 < length us → (count ≡ 0 → ⊥) → rising num_u 0 (take count us) ≡ true
    → leb (get_or us 0 blank_u).number n ≡ any (numbered_to n) (cut len_u unacked (take count us) s)
to_front n zero us s l h r = absurd (h refl)
to_front n (suc k) [] s l h r = absurd (omega arith)
to_front n (suc k) (u ∷ us) s l h r = to-first n 0 u (take k us) s r

module _ (n : ℕ) (x : Outbox) (s : Bytes) where
  pub to_none : x.count ≡ 0 → false ≡ any (numbered_to n) (unacked_of x s)
  unfolding unacked_of cut any
  to_none e = rw e refl

  pub to_some : sound_outbox_of x ≡ true → length x.records ≡ 256 → (x.count ≡ 0 → ⊥)
      → leb (get_or x.records 0 blank_u).number n ≡ any (numbered_to n) (unacked_of x s)
  unfolding unacked_of
  to_some e full h = to_front n x.count x.records s (omega arith) h (sound_facts x e).order

-- ---- whether a number with a body is unacked: numbers differ, so it is where the number is

-- what lies at a place is a body
abbrev pub lies_at : Option Place → Bytes → Bytes → Bool
lies_at (Some p) s b = same (take p.len (drop p.start s)) b
lies_at None s b = false

or_false : (a b : Bool) → b ≡ false → a ≡ (a || b)
or_false true b e = refl
or_false false b e = sym e

carries-at : (n : ℕ) (b : Bytes) (at m : ℕ) (us : List Unacked) (s : Bytes) → rising num_u m us ≡ true
    → lies_at (place_u n at us) s b ≡ any (carries_body n b) (cut len_u unacked us (drop at s))
unfolding place_u rising cut any
carries-at n b at m [] s r = refl
carries-at n b at m (u ∷ us) s r =
    go (eqb u.number n) (λ e. omega (arith, eqb-true u.number n e))
    (carries-at n b (at + u.len) u.number us s (and_parts (ltb m u.number) (rising num_u u.number us) r).1)
  where
    rest : rising num_u u.number us ≡ true
    rest = (and_parts (ltb m u.number) (rising num_u u.number us) r).1

    go : (t : Bool) → (t ≡ true → n ≤ u.number) → lies_at (place_u n (at + u.len) us) s b ≡ any (carries_body n b) (cut len_u unacked us (drop (at + u.len) s))
        → lies_at (if t then Some (place_at at u.len) else place_u n (at + u.len) us) s b
        ≡ ((t && same (take u.len (drop at s)) b) || any (carries_body n b) (cut len_u unacked us (drop u.len (drop at s))))
    go true h k =
        or_false (same (take u.len (drop at s)) b) _
        (none-past (carries_body n b) n (λ v w. rw (ne_eqb v.number n (λ e. omega arith))) u.number us (drop u.len (drop at s)) (h refl) rest)
    go false h k =
        k
        ∙ ap (λ (z : Bytes). any (carries_body n b) (cut len_u unacked us z)) (sym (drop-drop u.len at s))

module _ (n : ℕ) (x : Outbox) (s : Bytes) (sound : sound_outbox_of x ≡ true) {p : Option Place} (is : p ≡ place_u n 0 (used_u x)) where
  lies : (b : Bytes) → lies_at p s b ≡ any (carries_body n b) (unacked_of x s)
  unfolding unacked_of
  lies b = ap (λ (y : Option Place). lies_at y s b) is ∙ carries-at n b 0 0 (used_u x) s (sound_facts x sound).order

  pub carries_here : (b : Bytes) (q : Place) → p ≡ Some q → same (take q.len (drop q.start s)) b ≡ any (carries_body n b) (unacked_of x s)
  carries_here b q e = sym (ap (λ (y : Option Place). lies_at y s b) e) ∙ lies b

  pub carries-none : (b : Bytes) → p ≡ None → false ≡ any (carries_body n b) (unacked_of x s)
  carries-none b e = sym (ap (λ (y : Option Place). lies_at y s b) e) ∙ lies b
