-- A call that is stopped at its entry meets its promise. Assumes nothing.
use mathlib.Core.Path.{◌≡◌, refl, sym, ap, subst, ◌∙◌}
use mathlib.Core.Bool.{Bool, true, false, ◌&&◌, ◌||◌}
use mathlib.Core.List.{[]}
use Prim.Native.Nat.{ℕ, ◌≤◌}
use lib.ListN.{length}
use lib.Dec.{ltb, leb}
use borrow.Author.Tests.{ltb-false, leb-true}
use Rattle.std.proofs.lemmas.Bool.{or_parts}
use Rattle.std.specs.Prelude.{Result, Ok, Err, IfOk, is_err}
use Rattle.std.specs.Result.{result_and}
use Rattle.rules.specs.declared.Answer.TheVariants.{Refused}
use Rattle.rules.specs.declared.Refusal.{Refusal}
use Rattle.rules.specs.declared.Refusal.TheVariants.{GenerationsExhausted}
use Rattle.rules.specs.State as R
use Rattle.rules.specs.Progress.{outcome}
use Rattle.rules.specs.Calls.{Call, step}
use Rattle.rules.specs.Buffers.{Lent, taken_by, short, wrong_code, queue_end, queue_reach}
use Rattle.peer_session.specs.declared.SessionState.{SessionState}
use Rattle.peer_session.specs.View.{state_of}
use Rattle.peer_session.specs.Sound.{sound_of}
use Rattle.session.specs.declared.Returned.{Returned}
use Rattle.session.specs.Promise.{Called, Turned}
use Rattle.session.specs.Entry.{lacking, entry_of, Enters}
use Rattle.session.proofs.Entry.{entered, is-short, is_wrong, is_unsound, is_refused}

stores-long : (l d o q : ℕ) → lacking l d o q ≡ false → (65536 ≤ o) × (32768 ≤ q)
stores-long l d o q e =
    let x = or_parts (ltb l 4096 || ltb d 49152 || ltb o 65536) (ltb q 32768) e in
    let y = or_parts (ltb l 4096 || ltb d 49152) (ltb o 65536) x.0 in
    (ltb-false _ _ y.1, ltb-false _ _ x.1)

abbrev stop : Refusal → Result (Unit {0}) Refusal
stop x = Err x

stopped_by : {x y : Refusal} {s : SessionState} {r : Returned} → stop x ≡ stop y → Turned s y r → Turned s x r
stopped_by {x} {y} {s} {r} e t =
    let f : y ≡ x = cc in
    subst (λ (z : Refusal). Turned s z r) f t

spent_by : (b : Bool) (n : ℕ) → (b && leb 4294966000 n) ≡ true → (b ≡ true) × (4294966000 ≤ n)
spent_by true n e = (refl, leb-true _ _ e)
spent_by false n e = cc

-- at the generation's end the call is refused by 22, and leaves the queue store
abbrev pub Spends : Call → Type 0
Spends c = (t : R.State) → 4294966000 ≤ t.clock.generation → (step c t ≡ outcome t (Refused GenerationsExhausted) []) × (queue_reach c t ≡ queue_end t)

-- by whichever refusal: a buffer that the call does not take counts as long enough, and it has to spend a generation only if it raises it
pub stops : (c : Call) (s : SessionState) (l : Lent) {a d o q : ℕ} {wrong raises : Bool} {e : Result (Unit {0}) Refusal} {x : Refusal} {r : Returned}
    → Enters s a d o q wrong raises e → e ≡ Err x → Turned s x r → short (taken_by c) l ≡ lacking a d o q → wrong_code c ≡ wrong
    → (65536 ≤ o → 65536 ≤ length l.outbound) → (32768 ≤ q → 32768 ≤ length l.queue) → (raises ≡ true → wrong ≡ false → Spends c) → Called c s l r l
stops c s l {a} {d} {o} {q} {wrong} {raises} {e} {x} {r} en is t lengths code fo fq sp =
    go (lacking a d o q) wrong (sound_of s) (raises && leb 4294966000 s.clock.generation) refl refl refl refl (sym en.is ∙ is)
  where
    go : (b w u f : Bool) → lacking a d o q ≡ b → wrong ≡ w → sound_of s ≡ u → (raises && leb 4294966000 s.clock.generation) ≡ f → entry_of b w u f ≡ Err x → Called c s l r l
    go true w u f i j k m h = is-short c s l (stopped_by h t) (lengths ∙ i)
    go false true u f i j k m h = is_wrong c s l (lengths ∙ i) (stopped_by h t) (code ∙ j)
    go false false false f i j k m h = is_unsound c s l (lengths ∙ i) (code ∙ j) (stopped_by h t) k
    go false false true true i j k m h =
        let z = spent_by raises s.clock.generation m in
        let n = stores-long a d o q i in
        let y = sp z.0 j (state_of s l.outbound l.queue) z.1 in
        is_refused c s l (lengths ∙ i) (code ∙ j) (stopped_by h t) k (entered s l.outbound l.queue k en.full (fo n.0) (fq n.1)) y.1 y.0
    go false false true false i j k m h = cc

-- ---- a call that reads a code: the tests and the code, joined by `and`

not_read : (b u f : Bool) {x : Refusal} → entry_of b true u f ≡ Ok tt → stop x ≡ Ok tt
not_read true u f e = cc
not_read false u f e = cc

module _ {T : Type 0} {s : SessionState} {a d o q : ℕ} {wrong raises : Bool} {e : Result (Unit {0}) Refusal} (code : Result T Refusal) (w : wrong ≡ is_err code)
    (en : Enters s a d o q wrong raises e) where
  -- a code that is none stops the call at its entry
  pub stopped_at : {x : Refusal} → result_and e code ≡ Err x → e ≡ Err x
  stopped_at {x} k = go e code refl refl k
    where
      go : (e' : Result (Unit {0}) Refusal) (c' : Result T Refusal) → e ≡ e' → code ≡ c' → result_and e' c' ≡ Err x → e ≡ Err x
      go (Err y) c' i j k =
          let f : y ≡ x = cc in
          i ∙ ap stop f
      go (Ok u) (Err y) i j k =
          let m : wrong ≡ true = w ∙ ap is_err j in
          i ∙ sym (not_read (lacking a d o q) (sound_of s) (raises && leb 4294966000 s.clock.generation) {x = x} (rw m at (sym en.is ∙ i)))
      go (Ok u) (Ok v) i j k = cc

  -- what is known past it
  pub passed_at : {A : Type 0} {v : T} → IfOk e (λ u. A) → result_and e code ≡ Ok v → A × (code ≡ Ok v)
  passed_at {A} {v} p k = go e refl k
    where
      go : (e' : Result (Unit {0}) Refusal) → e ≡ e' → result_and e' code ≡ Ok v → A × (code ≡ Ok v)
      go (Err y) i k = cc
      go (Ok u) i k = (subst (λ (z : Result (Unit {0}) Refusal). IfOk z (λ u. A)) i p, k)
