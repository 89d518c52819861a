-- Laws of events listed, of the books, and of what is under way. Assumes nothing.
use Rattle.std.specs.Prelude.{if◌then◌else◌, None, Some}
use mathlib.Core.Path.{◌≡◌, refl, sym, ap, ◌∙◌, subst}
use mathlib.Core.Bool.{Bool}
use mathlib.Core.List.{List, [], ◌∷◌, ◌++◌, append_assoc}
use Prim.Native.Nat.{ℕ, ◌+◌, ◌*◌, ◌≤◌, ◌<◌}
use native.Mathlib.Omega.{arith}
use native.Mathlib.Nat.{add_assoc, add-zero}
use native.Mathlib.Numerals.{add-one, add-two, add-three}
use lib.ListN.{length, take, drop, set, length-append, length-take}
use lib.Seq.{sets-eq, take_at, drop-append-add, drop-drop}
use borrow.Author.Tests.{lt-ltb, le-ltb}
use Rattle.stores.specs.Placed.{placed}
use Rattle.stores.proofs.Laws.{placed-none}
use Rattle.rules.specs.declared.Clock.{Clock}
use Rattle.rules.specs.declared.Refusal.{Refusal}
use Rattle.rules.specs.Lists.{Bytes, packed}
use Rattle.rules.specs.State.{Unacked, State}
use Rattle.rules.specs.Events.{Event, Words, commit_requested, handed, listed}
use Rattle.rules.specs.Progress.{Progress, goes, stops, listing, ◌then◌}
use Rattle.rules.specs.Buffers.{flat}
use Rattle.rules.proofs.Events.{listed-append}
use Rattle.rules.proofs.Lists.{packed-append}
use Rattle.events.specs.Written.{ListedIn, Listed, asked, Books, books, write, Within, Final, final, ends}

-- ---- runs of words

-- four stores in a row
pub four : (l : List ℕ) (i a b c d : ℕ) → i + 4 ≤ length l → set (set (set (set l i a) (i + 1) b) (i + 2) c) (i + 3) d ≡ placed l i (a ∷ b ∷ c ∷ d ∷ [])
unfolding placed
four l i a b c d h =
    simp (add-one, add-two, add-three) (sets-eq (a ∷ b ∷ c ∷ d ∷ []) l i h ∙ append_assoc (take i l) (a ∷ b ∷ c ∷ d ∷ []) (drop (i + 4) l))

-- a run after a run is one run, however long the second is
pub placed_onto : {A : Type 0} (s : List A) (i : ℕ) (b c : List A) → i ≤ length s → placed (placed s i b) (i + length b) c ≡ placed s i (b ++ c)
unfolding placed
placed_onto {A = A} s i b c h =
    let p : List A = take i s ++ b in
    let x : List A = drop (i + length b) s in
    let lp : length p ≡ i + length b = simp (length-append, length-take) (omega arith) in
    let e0 : take i s ++ (b ++ x) ≡ p ++ x = sym (append_assoc (take i s) b x) in
    let e1 : take (i + length b) (take i s ++ (b ++ x)) ≡ p = ap (take (i + length b)) e0 ∙ take_at p x (i + length b) lp in
    let e2 : drop (i + length b + length c) (take i s ++ (b ++ x)) ≡ drop (i + length (b ++ c)) s =
    ap (drop (i + length b + length c)) e0
    ∙ ap (λ (k : ℕ). drop (k + length c) (p ++ x)) (sym lp)
    ∙ drop-append-add p x (length c)
    ∙ drop-drop (length c) (i + length b) s
    ∙ ap (λ (k : ℕ). drop k s) (add_assoc i (length b) (length c) ∙ ap (λ (k : ℕ). i + k) (sym (length-append b c))) in
    ap (λ (y : List A). y ++ (c ++ drop (i + length b + length c) (take i s ++ (b ++ x)))) e1
    ∙ ap (λ (y : List A). p ++ (c ++ y)) e2
    ∙ append_assoc (take i s) b (c ++ drop (i + length (b ++ c)) s)
    ∙ ap (λ (y : List A). take i s ++ y) (sym (append_assoc b c (drop (i + length (b ++ c)) s)))

pub flat_append : (xs ys : List Words) → flat (xs ++ ys) ≡ flat xs ++ flat ys
unfolding flat
flat_append [] ys = refl
flat_append (w ∷ xs) ys = ap (λ (l : List ℕ). w.code ∷ w.number ∷ w.start ∷ w.length ∷ l) (flat_append xs ys)

pub length-flat : (us : List Unacked) (at : ℕ) (es : List Event) → length (flat (listed us at es)) ≡ 4 * length es
unfolding flat listed
length-flat us at [] = refl
length-flat us at (e ∷ es) = omega (arith, length-flat us (at + length (handed e)) es)

-- the words of events listed one after the other
pub flat-listed : (us : List Unacked) (at : ℕ) (es fs : List Event)
    → flat (listed us at (es ++ fs)) ≡ flat (listed us at es) ++ flat (listed us (at + length (packed handed es)) fs)
flat-listed us at es fs =
    ap flat (listed-append us at es fs) ∙ flat_append (listed us at es) (listed us (at + length (packed handed es)) fs)

-- ---- events listed one after the other

module _ {us : List Unacked} where
  pub listed-none : (l : List ℕ) (n : ℕ) → ListedIn us [] l n l n
  unfolding flat listed
  listed-none l n = record { count = sym (add-zero n); words = λ at. sym (placed-none l (4 * n)) }

  pub listed_then : {es fs : List Event} {l l' l'' : List ℕ} {n n' n'' : ℕ} → 4 * n ≤ length l
      → ListedIn us es l n l' n' → ListedIn us fs l' n' l'' n'' → ListedIn us (es ++ fs) l n l'' n''
  listed_then {es} {fs} {l} {l'} {l''} {n} {n'} {n''} h x y =
      record {
        count = y.count ∙ ap (λ (k : ℕ). k + length fs) x.count ∙ add_assoc n (length es) (length fs) ∙ ap (λ (k : ℕ). n + k) (sym (length-append es fs));
        words = λ at.
            let W : List ℕ = flat (listed us at es) in
            let X : List ℕ = flat (listed us (at + length (packed handed es)) fs) in
            let e4 : 4 * n' ≡ 4 * n + length W = omega (arith, x.count, length-flat us at es) in
            y.words (at + length (packed handed es))
            ∙ ap (λ (m : List ℕ). placed m (4 * n') X) (x.words at)
            ∙ ap (λ (k : ℕ). placed (placed l (4 * n) W) k X) e4
            ∙ placed_onto l (4 * n) W X h
            ∙ ap (placed l (4 * n)) (sym (flat-listed us at es fs));
      }

pub request_yes : (c : Clock) (l l' : List ℕ) (n : ℕ) → c.persisted < c.generation → l' ≡ placed l (4 * n) (1 ∷ 0 ∷ 0 ∷ 0 ∷ []) → Listed (asked c) l n l' (n + 1)
unfolding flat listed
request_yes c l l' n h e us =
    let a : asked c ≡ commit_requested ∷ [] = ap (λ (t : Bool). if t then (commit_requested ∷ []) else []) (lt-ltb c.persisted c.generation h) in
    record {
      count = ap (λ (x : List Event). n + length x) (sym a);
      words = λ at. e ∙ ap (λ (x : List Event). placed l (4 * n) (flat (listed us at x))) (sym a);
    }

pub request_no : (c : Clock) (l : List ℕ) (n : ℕ) → c.generation ≤ c.persisted → Listed (asked c) l n l n
request_no c l n h us =
    let a : asked c ≡ [] = ap (λ (t : Bool). if t then (commit_requested ∷ []) else []) (le-ltb c.persisted c.generation h) in
    subst (λ (x : List Event). ListedIn us x l n l n) (sym a) (listed-none l n)

-- ---- the books

pub books_cong : {l m : List ℕ} {n k : ℕ} {d e : Bytes} {a b : ℕ} → l ≡ m → n ≡ k → d ≡ e → a ≡ b → books l n d a ≡ books m k e b
books_cong p q r s = cc

pub write-none : (us : List Unacked) (b : Books) → write us [] b ≡ b
unfolding write flat listed packed
write-none us b = books_cong (placed-none b.list (4 * b.n)) (add-zero b.n) (placed-none b.delivery b.at) (add-zero b.at)

pub write-append : (us : List Unacked) (es fs : List Event) (b : Books) → Within b → write us (es ++ fs) b ≡ write us fs (write us es b)
unfolding write
write-append us es fs b w =
    let W : List ℕ = flat (listed us b.at es) in
    let D : Bytes = packed handed es in
    let lw : length W ≡ 4 * length es = length-flat us b.at es in
    let e4 : 4 * b.n + length W ≡ 4 * (b.n + length es) = omega arith in
    let pd : packed handed (es ++ fs) ≡ D ++ packed handed fs = packed-append handed es fs in
    books_cong
    (ap (placed b.list (4 * b.n)) (flat-listed us b.at es fs)
    ∙ sym (placed_onto b.list (4 * b.n) W (flat (listed us (b.at + length D) fs)) w.listed)
    ∙ ap (λ (k : ℕ). placed (placed b.list (4 * b.n) W) k (flat (listed us (b.at + length D) fs))) e4)
    (ap (λ (k : ℕ). b.n + k) (length-append es fs) ∙ sym (add_assoc b.n (length es) (length fs)))
    (ap (placed b.delivery b.at) pd ∙ sym (placed_onto b.delivery b.at D (packed handed fs) w.filled))
    (ap (λ (x : Bytes). b.at + length x) pd ∙ ap (λ (k : ℕ). b.at + k) (length-append D (packed handed fs)) ∙ sym (add_assoc b.at (length D) (length (packed handed fs))))

-- ---- what is under way

pub final-listing : (us : List Unacked) (es : List Event) (p : Progress) (b : Books) → Within b → final us (listing es p) b ≡ final us p (write us es b)
final-listing us es (goes s fs) b w = ap (ends None s) (write-append us es fs b w)
final-listing us es (stops r s fs) b w = ap (ends (Some r) s) (write-append us es fs b w)

-- one thing after the other
pub then_goes : (us : List Unacked) (p : Progress) (f : State → Progress) (b b' : Books) (t : State) → Within b → final us p b ≡ ends None t b'
    → final us (p then f) b ≡ final us (f t) b'
then_goes us (goes s es) f b b' t w e =
    let es' : s ≡ t = ap (λ (x : Final). x.state) e in
    let eb : write us es b ≡ b' = ap (λ (x : Final). x.books) e in
    final-listing us es (f s) b w ∙ ap (λ (x : State). final us (f x) (write us es b)) es' ∙ ap (final us (f t)) eb
then_goes us (stops r s es) f b b' t w e =
    let x : Some r ≡ None = ap (λ (x : Final). x.stop) e in
    let z : ◌≡◌ {A = ℕ} 0 1 = cc in
    absurd (omega arith)

pub then_stops : (us : List Unacked) (p : Progress) (f : State → Progress) (b b' : Books) (r : Refusal) (t : State) → final us p b ≡ ends (Some r) t b'
    → final us (p then f) b ≡ ends (Some r) t b'
then_stops us (goes s es) f b b' r t e =
    let x : None ≡ Some r = ap (λ (x : Final). x.stop) e in
    let z : ◌≡◌ {A = ℕ} 0 1 = cc in
    absurd (omega arith)
then_stops us (stops q s es) f b b' r t e = e
