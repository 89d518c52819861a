-- "A refusal returns its number, lists nothing and changes nothing, except": what the promise of every call says of a refusal that document 01 does not
-- except. The session is as it was, no event is counted, and every word and byte of what is lent is as it was. Assumes nothing.
use mathlib.Core.Path.{◌≡◌, refl, sym, ap, ◌∙◌, subst}
use mathlib.Core.Bool.{Bool, true, false}
use mathlib.Core.List.{List, []}
use Prim.Native.Nat.{ℕ, ◌≤◌}
use native.Mathlib.Omega.{arith}
use lib.ListN.{length, replicate, length-take, length-replicate}
use Rattle.rules.specs.declared.Answer.{Answer}
use Rattle.rules.specs.Answers.{refused_by}
use Rattle.rules.specs.Lists.{Bytes, ◌∈◌}
use Rattle.rules.specs.State.{State}
use Rattle.rules.specs.Calls.{Call, step}
use Rattle.rules.specs.Refusals.{excepted}
use Rattle.rules.specs.Buffers.{Lent, taken_by, short, wrong_code}
use Rattle.rules.proofs.Lists.{both}
use Rattle.rules.proofs.Stops.{Small}
use Rattle.rules.proofs.Refusals.{refused_plainly, refused_reach}
use Rattle.peer_session.specs.declared.SessionState.{SessionState}
use Rattle.peer_session.specs.View.{held, state_of}
use Rattle.peer_session.specs.Sound.{sound_of, Full}
use Rattle.session.specs.declared.Returned.{Returned}
use Rattle.session.specs.Promise.{Exit, exit, lent, follows, Called, CalledWithList, CalledWithOutbound, CalledWithStores, CalledWithOutboundAlone, CalledWithStoresAlone, CalledAlone}
use Rattle.session.proofs.Promises.{promise-short, promise-code, promise_unsound, promise-follows, follows_is, refuses}
use Rattle.session.proofs.Lengths.{long-outbound, long-queue}
use Rattle.session.proofs.Entry.{Entered, entered}

-- the reject body lies in an array of 64 bytes
small : (s : SessionState) (o q : Bytes) → Full s → Small (state_of s o q)
small s o q full = omega (arith, length-take s.reject.len s.reject.bytes, full.reject)

either : {A : Type 0} (b : Bool) → (b ≡ true → A) → (b ≡ false → A) → A
either true f g = f refl
either false f g = g refl

-- ---- all four buffers. A store that the call does not take is at least as long as named; one that it takes may be short, for then it is refused by 1

module _ (c : Call) (s : SessionState) (l l' : Lent) (r : Returned) (full : Full s) (lo : (taken_by c).outbound ≡ false → 65536 ≤ length l.outbound)
    (lq : (taken_by c).queue ≡ false → 32768 ≤ length l.queue) (called : Called c s l r l') where
  abbrev Same : Type 0
  Same = (held r.session ≡ held s) × (r.events ≡ 0) × (l' ≡ l)

  as_was : {a : Answer} → exit (held r.session) r.answer r.events l' ≡ exit (held s) a 0 l → Same
  as_was e = (ap (λ (z : Exit). z.session) e, ap (λ (z : Exit). z.events) e, ap (λ (z : Exit). z.lent) e)

  pub refused_same : (refused_by r.answer ≡ 0 → ⊥) → (refused_by r.answer ∈ excepted c → ⊥) → Same
  unfolding follows
  refused_same k m = at-short (short (taken_by c) l) refl
    where
      t : State
      t = state_of s l.outbound l.queue

      -- the rule book's outcome
      by_rule : short (taken_by c) l ≡ false → sound_of s ≡ true → exit (held r.session) r.answer r.events l' ≡ follows c t l → Same
      by_rule long good e =
          let a : r.answer ≡ (step c t).answer = ap (λ (z : Exit). z.answer) e in
          let k' : refused_by (step c t).answer ≡ 0 → ⊥ = λ z. k (ap refused_by a ∙ z) in
          let m' : refused_by (step c t).answer ∈ excepted c → ⊥ = λ z. m (subst (λ (y : Answer). refused_by y ∈ excepted c) (sym a) z) in
          let f : Small t = small s l.outbound l.queue full in
          let o : 65536 ≤ length l.outbound = either (taken_by c).outbound (long-outbound (taken_by c) l long) lo in
          let q : 32768 ≤ length l.queue = either (taken_by c).queue (long-queue (taken_by c) l long) lq in
          let i : Entered s l.outbound l.queue = entered s l.outbound l.queue good full o q in
          as_was
          (e
          ∙ sym (follows_is long (refuses {c = c} {s = s} {l = l} t i.held-is i.stored (refused_reach c t f k' m') (refused_plainly c t f k' m'))))

      at-sound : (b : Bool) → short (taken_by c) l ≡ false → wrong_code c ≡ false → sound_of s ≡ b → Same
      at-sound true long known e = by_rule long e (called ∙ promise-follows c s l long known e)
      at-sound false long known e = as_was (called ∙ promise_unsound c s l long known e)

      at_code : (b : Bool) → short (taken_by c) l ≡ false → wrong_code c ≡ b → Same
      at_code true long e = as_was (called ∙ promise-code c s l long e)
      at_code false long e = at-sound (sound_of s) long e refl

      at-short : (b : Bool) → short (taken_by c) l ≡ b → Same
      at-short true e = as_was (called ∙ promise-short c s l e)
      at-short false e = at_code (wrong_code c) e refl

-- ---- by the buffers that are lent. Those that are not are any of the named length

unfoldable outbound : Bytes
outbound = replicate 65536 0

unfoldable queue : Bytes
queue = replicate 32768 0

long-o : 65536 ≤ length outbound
unfolding outbound
long-o = omega (arith, length-replicate {A = ℕ} 65536 0)

long-q : 32768 ≤ length queue
unfolding queue
long-q = omega (arith, length-replicate {A = ℕ} 32768 0)

module _ (c : Call) (s : SessionState) (r : Returned) (full : Full s) (refused : refused_by r.answer ≡ 0 → ⊥) (plainly : refused_by r.answer ∈ excepted c → ⊥) where
  abbrev Left : Type 0
  Left = (held r.session ≡ held s) × (r.events ≡ 0)

  pub with_list_same : (l l' : List ℕ) → CalledWithList c s l r l' → Left × (l' ≡ l)
  with_list_same l l' called =
      let x = refused_same c s (lent l [] outbound queue) (lent l' [] outbound queue) r full (λ e. long-o) (λ e. long-q) (called [] outbound queue long-o long-q) refused plainly in
      ((x.0, x.1), ap (λ (z : Lent). z.list) x.2)

  pub alone-same : CalledAlone c s r → Left
  alone-same called = (with_list_same [] [] (called [])).0

  -- a call that takes the outbound store
  module _ (takes-outbound : (taken_by c).outbound ≡ true) (o o' : Bytes) where
    any-o : (taken_by c).outbound ≡ false → 65536 ≤ length o
    any-o e = absurd (both e takes-outbound)

    pub with_outbound_same : (l l' : List ℕ) → CalledWithOutbound c s l o r l' o' → Left × (l' ≡ l) × (o' ≡ o)
    with_outbound_same l l' called =
        let x = refused_same c s (lent l [] o queue) (lent l' [] o' queue) r full any-o (λ e. long-q) (called [] queue long-q) refused plainly in
        ((x.0, x.1), ap (λ (z : Lent). z.list) x.2, ap (λ (z : Lent). z.outbound) x.2)

    pub with_outbound_alone_same : CalledWithOutboundAlone c s o r o' → Left × (o' ≡ o)
    with_outbound_alone_same called = let x = with_outbound_same [] [] (called []) in (x.0, x.2)

    -- both stores
    module _ (takes-queue : (taken_by c).queue ≡ true) (q q' : Bytes) where
      pub with_stores_same : (l l' : List ℕ) → CalledWithStores c s l o q r l' o' q' → Left × (l' ≡ l) × (o' ≡ o) × (q' ≡ q)
      with_stores_same l l' called =
          let x = refused_same c s (lent l [] o q) (lent l' [] o' q') r full any-o (λ e. absurd (both e takes-queue)) (called []) refused plainly in
          ((x.0, x.1), ap (λ (z : Lent). z.list) x.2, ap (λ (z : Lent). z.outbound) x.2, ap (λ (z : Lent). z.queue) x.2)

      pub with_stores_alone_same : CalledWithStoresAlone c s o q r o' q' → Left × (o' ≡ o) × (q' ≡ q)
      with_stores_alone_same called = let x = with_stores_same [] [] (called []) in (x.0, x.2, x.3)
