-- A start that is not refused hands out a sound session. Assumes nothing.
use mathlib.Core.Path.{◌≡◌, sym, ap, ◌∙◌}
use mathlib.Core.Bool.{true, false, ◌&&◌, ◌||◌}
use mathlib.Core.List.{List, []}
use Prim.Native.Nat.{ℕ}
use native.Mathlib.Omega.{arith}
use lib.Dec.{ltb}
use borrow.Author.Tests.{ltb-false}
use Rattle.rules.specs.declared.Answer.TheVariants.{Done}
use Rattle.rules.specs.declared.Policy.{Policy}
use Rattle.rules.specs.declared.Refusal.{Refusal}
use Rattle.rules.specs.Lists.{Bytes}
use Rattle.rules.specs.Start.{Reliable, Start, unstarted, good_record, good_policy, good_reject, new, start}
use Rattle.rules.specs.Buffers.{Lent, takes, short}
use Rattle.rules.proofs.Lists.{if_rule, and_left, and_right}
use Rattle.rules.proofs.Sound.{parts-sound, new-sound}
use Rattle.peer_session.specs.declared.SessionState.{SessionState}
use Rattle.peer_session.specs.View.{held}
use Rattle.peer_session.specs.Sound.{sound_of, Full}
use Rattle.peer_session.proofs.Lasting.{settles-sound}
use Rattle.session.specs.declared.Returned.{Returned}
use Rattle.session.specs.Promise.{Exit, exit, lent}
use Rattle.starts.specs.declared.Reliable as Code
use Rattle.starts.specs.Started.{messages_of, short_record, begins, start_promise, Started}

module _ (x : SessionState) (full : Full x) where
  -- what an exit that answers Done says of the session
  Sure : Exit → Type 0
  Sure e = e.answer ≡ Done → held x ≡ e.session → sound_of x ≡ true

  not_started : (y : Refusal) (l : Lent) → Sure (begins (unstarted y) l)
  unfolding Sure
  not_started y l e h = let z : ◌≡◌ {A = ℕ} 0 1 = cc in absurd (omega arith)

  by_rule : (r : Reliable) (policy : Policy) (reject : Bytes) (l : Lent) → Sure (begins (start r policy reject) l)
  unfolding start Sure
  by_rule r policy reject l =
      if_rule (λ (z : Start). Sure (begins z l)) (ltb 4 r.disposition) _ _ (λ e. not_started _ l)
      λ e. if_rule (λ (z : Start). Sure (begins z l)) (good_record r && good_policy policy && good_reject reject) _ _
      (λ g a h.
      settles-sound (new r policy reject) x full h
      (parts-sound (new r policy reject)
      (new-sound r policy reject (ltb-false _ _ e) (and_left (good_record r) (good_policy policy) (and_left (good_record r && good_policy policy) (good_reject reject) g))
      (and_right (good_record r) (good_policy policy) (and_left (good_record r && good_policy policy) (good_reject reject) g))
      (and_right (good_record r && good_policy policy) (good_reject reject) g))))
      (λ g. not_started _ l)

pub starts-sound : (r : Code.Reliable) (ns ks : List ℕ) (b : Bytes) (policy : Policy) (reject o q : Bytes) (x : Returned) (o' q' : Bytes)
    → Started r ns ks b policy reject o q x o' q' → Full x.session → x.answer ≡ Done → sound_of x.session ≡ true
unfolding start_promise Sure
starts-sound r ns ks b policy reject o q x o' q' h full done =
    let rec : Reliable = record { next = r.message_number; remote = r.remote_number; disposition = r.disposition; unacked = messages_of ns ks b } in
    let l : Lent = lent [] [] o q in
    let e : exit (held x.session) x.answer x.events (lent [] [] o' q') ≡ start_promise rec policy reject (short_record ns ks b) l = h [] [] in
    let sure : Sure x.session full (start_promise rec policy reject (short_record ns ks b) l) =
    if_rule (Sure x.session full) (short (takes false false true true) l || short_record ns ks b) _ _ (λ t. not_started x.session full _ l) (λ t. by_rule x.session full rec policy reject l) in
    sure (ap (λ (z : Exit). z.answer) (sym e) ∙ done) (ap (λ (z : Exit). z.session) e)
