-- Sets of numbers that change in place: words of theirs are lent, come back changed, and the count is stored. Assumes nothing.
use Prim.Native.Nat.{ℕ, ◌+◌, ◌-◌, ◌≤◌, ◌<◌}
use mathlib.Core.Path.{◌≡◌, sym, ap, ◌∙◌, subst}
use mathlib.Core.Bool.{Bool}
use mathlib.Core.List.{List, ◌∷◌, ◌++◌}
use native.Mathlib.Omega.{arith}
use lib.ListN.{length, take, drop, set, length-take, length-drop}
use lib.Seq.{get_or-set_same, drop_at, take-append-add, take-take}
use native.Mathlib.Nat.{add-zero}
use borrow.Rule.Slice.PartMut.{put_mid, same_len_mid, take_put}
use Rattle.std.proofs.lemmas.Slice.{drop-put_mid}
use Rattle.stores.proofs.Packs.{drop-take}
use Rattle.std.proofs.lemmas.List.{get_or-take, get_or-drop, length-take-le}
use lib.Dec.{ltb}
use Rattle.rules.specs.Lists.{kept, put, itself}
use Rattle.numbers.specs.declared.Numbers.{Numbers}
use Rattle.numbers.specs.declared.ReleasedRun.{ReleasedRun}
use Rattle.numbers.specs.Seats.{in_use, but_last, ExactNumbers, Holds, Leads, ReleasesRun, seat_of}
use Rattle.numbers.proofs.Laws.{leads_hold, put_leads, put_old, put-room, put-new, seat_within}
use Rattle.numbers.proofs.Passes.{released_acks}
use Rattle.parts.specs.Parts.{at, section, numbers_in}
use Rattle.parts.specs.Frames.{Only}
use Rattle.link_numbers.specs.Sets.{Set, Rising, Becomes, Releases}
use Rattle.link_numbers.proofs.Asked.{run_is}
use Rattle.link_numbers.proofs.Sets.{section-room, section-at, section-before, only_none, only-count}

-- ---- the first k words of a set, lent and changed, and its count, stored last

module _ {from count : ℕ} {w : List ℕ} (s : Set from count w) (k : ℕ) (few : k ≤ 512) (run : List ℕ) (same : length run ≡ length (take k (drop from w))) where
  abbrev w' : List ℕ
  w' = put_mid from k w run

  room : from + 512 ≤ length w
  room = section-room from w s.exact.full

  size : length run ≡ k
  size = same ∙ simp (length-take, length-drop) (omega (arith, room))

  only : Only from count w w'
  only =
      record {
        size = same_len_mid from k w run same;
        below = λ j h _. sym (get_or-take from w' j 0 h) ∙ ap (λ (l : List ℕ). at l j) (take_put from k w run (omega (arith, room))) ∙ get_or-take from w j 0 h;
        above = λ j h.
            ap (at w') (sym (add-zero j))
            ∙ sym (get_or-drop j w' 0 0)
            ∙ ap (λ (l : List ℕ). at l 0) (drop-put_mid from k w run j (omega arith) (omega (arith, room)) size)
            ∙ get_or-drop j w 0 0
            ∙ ap (at w) (add-zero j);
      }

  run_section : section from 512 w' ≡ run ++ drop k (section from 512 w)
  run_section =
      let e : 512 ≡ length run + (512 - k) = omega (arith, size) in
      ap (take 512) (drop_at (take from w) (run ++ drop k (drop from w)) from (length-take-le from w (omega (arith, room))))
      ∙ ap (λ (j : ℕ). take j (run ++ drop k (drop from w))) e
      ∙ take-append-add run (drop k (drop from w)) (512 - k)
      ∙ ap (λ (l : List ℕ). run ++ l) (sym (drop-take k 512 (drop from w)))

  as_long : length run ≡ length (take k (section from 512 w))
  as_long = same ∙ ap length (sym (take-take k 512 (drop from w) few))

  pub run_becomes : {ns : List ℕ} {j : ℕ} → Leads ns j run → Becomes ns from count w (set w' count j)
  run_becomes {ns} {j} h =
      let es : section from 512 (set w' count j) ≡ run ++ drop k (section from 512 w) = section-before from w' count j s.outside ∙ run_section in
      let ec : at (set w' count j) count ≡ j = get_or-set_same w' count j 0 (omega (arith, only.size, room, s.outside)) in
      record {
        holds =
            subst (λ (i : ℕ). Holds ns (record { values = section from 512 (set w' count j); count = i })) (sym ec)
            (subst (λ (l : List ℕ). Holds ns (record { values = l; count = j })) (sym es) (leads_hold (section from 512 w) run k few s.exact.full as_long h));
        only = only-count only j s.outside;
      }

-- ---- what the lent words of the numbers in use become

module _ {from count : ℕ} {w : List ℕ} (s : Set from count w) where
  abbrev numbers : Numbers
  numbers = numbers_in from count w

  module _ (run : List ℕ) (same : length run ≡ length (take (from + at w count - from) (drop from w))) where
    abbrev k : ℕ
    k = from + at w count - from

    few : k ≤ 512
    few = omega (arith, s.exact.few)

    as_used : take k (drop from w) ≡ in_use numbers
    as_used = run_is from (at w count) w s.exact.few

    pub run_keeps : (p : ℕ → Bool) {j : ℕ} → Leads (kept p (take k (drop from w))) j run
        → Becomes (kept p (in_use numbers)) from count w (set (put_mid from k w run) count j)
    run_keeps p {j} h = run_becomes s k few run same (subst (λ (ns : List ℕ). Leads (kept p ns) j run) as_used h)

    -- whatever number is stored, if it is how many stay: so the edit released_and_kept is refused by the number
    pub run_releases : {upto n stored : ℕ} {l l' : List ℕ} {r : ReleasedRun} → ReleasesRun upto (take k (drop from w)) l n run r l' → stored ≡ r.count
        → Releases upto from count w l n (set (put_mid from k w run) count stored) l' r.events
    run_releases {upto} {n} {stored} {l} {l'} {r} h e =
        let g : ReleasesRun upto (in_use numbers) l n run r l' = subst (λ (ns : List ℕ). ReleasesRun upto ns l n run r l') as_used h in
        let a = released_acks numbers run s.exact.few s.exact.full (same ∙ ap length as_used) g in
        let b = run_keeps (ltb upto) h.leads in
        subst
        (λ (x : ℕ). Releases upto from count w l n (set (put_mid from k w run) count x) l' r.events)
        (sym e)
        (record { released = record { holds = b.holds; few = a.few; listed = a.listed }; only = b.only })

  -- with one word more, for a number put at index i
  module _ (free : at w count < 512) (i n : ℕ) (within : i ≤ at w count) (run : List ℕ) where
    abbrev m : ℕ
    m = from + at w count + 1 - from

    pub run_puts : length run ≡ length (take m (drop from w)) → run ≡ take i (but_last (take m (drop from w))) ++ (n ∷ drop i (but_last (take m (drop from w))))
        → Becomes (take i (in_use numbers) ++ (n ∷ drop i (in_use numbers))) from count w (set (put_mid from m w run) count (at w count + 1))
    run_puts same e =
        let wide : m ≤ length (drop from w) = simp length-drop (omega (arith, section-room from w s.exact.full)) in
        let l : Leads (take i (take (at w count) (drop from w)) ++ (n ∷ drop i (take (at w count) (drop from w)))) (at w count + 1) run =
        put_leads (drop from w) run (at w count) m i n (omega arith) wide within e in
        run_becomes s m (omega arith) run same
        (subst (λ (ns : List ℕ). Leads (take i ns ++ (n ∷ drop i ns)) (at w count + 1) run) (sym (take-take (at w count) 512 (drop from w) s.exact.few)) l)

-- ---- a set that rises, with a number put

module _ {from count : ℕ} {w : List ℕ} (r : Rising from count w) where
  module _ (n k : ℕ) (e : k ≡ seat_of n (in_use (numbers_in from count w))) where
    abbrev v : Numbers
    v = numbers_in from count w

    x : ExactNumbers v
    x = r.set.exact

    there : k < at w count → at (section from 512 w) k ≡ at w (from + k)
    there h = section-at from w k (omega (arith, r.set.exact.few))

    pub put-stays : k < at w count → at w (from + k) ≡ n → Becomes (put itself n (in_use (numbers_in from count w))) from count w w
    put-stays h q = record { holds = put_old v n k x.few x.full e h (there h ∙ q); only = only_none from count w }

    module _ (q : k < at w count → at w (from + k) ≡ n → ⊥) where
      new : k < at w count → at (section from 512 w) k ≡ n → ⊥
      new h p = q h (sym (there h) ∙ p)

      pub put-fits : length (put itself n (in_use (numbers_in from count w))) ≤ 512
          → Set from count w × (k ≤ (numbers_in from count w).count) × ((numbers_in from count w).count < 512)
      put-fits h = (r.set, seat_within v n k x.few x.full e, put-room v n k x.few x.full e new h)

      pub put-comes : {w' : List ℕ} → Becomes (take k (in_use (numbers_in from count w)) ++ (n ∷ drop k (in_use (numbers_in from count w)))) from count w w'
          → Becomes (put itself n (in_use (numbers_in from count w))) from count w w'
      put-comes {w'} b = record { holds = put-new v n k x.few x.full e new (numbers_in from count w') b.holds; only = b.only }
