-- A command that meets a handoff, test by test. Assumes nothing.
use mathlib.Core.Path.{◌≡◌, refl, sym, ap, ◌∙◌}
use mathlib.Core.Bool.{Bool, true, false}
use mathlib.Core.List.{List}
use mathlib.Core.Option.{Option, some}
use Prim.Native.Nat.{ℕ}
use lib.ListN.{length}
use borrow.Author.Tests.{eq-eqb, ne_eqb}
use Rattle.rules.specs.declared.Answer.TheVariants.{Done}
use Rattle.rules.specs.declared.Refusal.{Refusal}
use Rattle.rules.specs.declared.Refusal.TheVariants.{HandoffPending, CommandDiffers, HandoffInconsistent, HandoffNotHeld}
use Rattle.rules.specs.Lists.{Bytes, any, same}
use Rattle.rules.specs.State as R
use Rattle.rules.specs.Progress.{Progress, stays, halts, ◌then◌, request, answers}
use Rattle.rules.specs.Handoff.{Command, numbered_to, carries, validate, channel_command}
use Rattle.outbox.specs.View.{unacked_of}
use Rattle.peer_session.specs.declared.SessionState.{SessionState}
use Rattle.peer_session.specs.View.{state_of}
use Rattle.session.specs.declared.Returned.{Returned}
use Rattle.session.specs.Promise.{Turned}
use Rattle.setup.specs.Steps.{Asks, Comes}
use Rattle.handoffs.specs.Commands.{commanding, carries_body, Holding, validating_of, validating}
use Rattle.handoffs.proofs.Steps.{given, is-there, comes_refused, comes_done}

-- ---- the rule

module _ (h : R.Handoff) (t : R.State) where
  valid_unsent : h.acknowledged ≡ true → h.sent ≡ false → validate h t ≡ halts HandoffInconsistent t
  unfolding validate
  valid_unsent a b = rw (a, b)

  module _ (a : h.acknowledged ≡ true) (b : h.sent ≡ true) where
    valid_unacked : any (numbered_to h.number) t.outbox.unacked ≡ true → validate h t ≡ halts HandoffInconsistent t
    unfolding validate
    valid_unacked e = rw (a, b, e)

    valid_acked : any (numbered_to h.number) t.outbox.unacked ≡ false → validate h t ≡ stays t
    unfolding validate
    valid_acked e = rw (a, b, e)

  module _ (a : h.acknowledged ≡ false) where
    valid_not_held : any (carries h) t.outbox.unacked ≡ false → validate h t ≡ halts HandoffNotHeld t
    unfolding validate
    valid_not_held e = rw (a, e)

    valid_held : any (carries h) t.outbox.unacked ≡ true → validate h t ≡ stays t
    unfolding validate
    valid_held e = rw (a, e)

-- ---- the code

module _ (s : SessionState) (l : List ℕ) (o : Bytes) (w : Holding s (length o)) where
  abbrev h : R.Handoff
  h = given s.handoff

  -- the handoff is there
  there : (q : Bytes) {p : Progress} → validate h (state_of s o q) ≡ p → validating (state_of s o q) ≡ answers Done (p then request)
  there q e =
      ap (λ (z : Option R.Handoff). answers Done (validating_of z (state_of s o q) then request)) (is-there s.handoff w.present)
      ∙ ap (λ (p : Progress). answers Done (p then request)) e

  refuse : {r : Returned} {x : Refusal} → Turned s x r → ((q : Bytes) → validate h (state_of s o q) ≡ halts x (state_of s o q)) → Comes validating s l o r l o
  refuse t f = comes_refused validating s l o w.exact t (λ q. there q (f q))

  allow : {r : Returned} {l' : List ℕ} → Asks s l r l' → ((q : Bytes) → validate h (state_of s o q) ≡ stays (state_of s o q)) → Comes validating s l o r l' o
  unfolding request
  allow a f = comes_done validating s l o w.exact a (λ q. there q (f q))

  pub unsent : {r : Returned} → s.handoff.acknowledged ≡ true → s.handoff.sent ≡ false → Turned s HandoffInconsistent r → Comes validating s l o r l o
  unsent a b t = refuse t (λ q. valid_unsent h (state_of s o q) a b)

  module _ {b : Bool} (is : (z : Bytes) → b ≡ any (numbered_to s.handoff.number) (unacked_of s.outbox z)) (a : s.handoff.acknowledged ≡ true) (e : s.handoff.sent ≡ true) where
    pub still_unacked : {r : Returned} → b ≡ true → Turned s HandoffInconsistent r → Comes validating s l o r l o
    still_unacked f t = refuse t (λ q. valid_unacked h (state_of s o q) a e (sym (is o) ∙ f))

    pub acked : {r : Returned} {l' : List ℕ} → b ≡ false → Asks s l r l' → Comes validating s l o r l' o
    acked f k = allow k (λ q. valid_acked h (state_of s o q) a e (sym (is o) ∙ f))

  module _ {b : Bool} (is : b ≡ any (carries_body s.handoff.number h.body) (unacked_of s.outbox o)) (a : s.handoff.acknowledged ≡ false) where
    pub not_carried : {r : Returned} → b ≡ false → Turned s HandoffNotHeld r → Comes validating s l o r l o
    not_carried f t = refuse t (λ q. valid_not_held h (state_of s o q) a (sym is ∙ f))

    pub carried : {r : Returned} {l' : List ℕ} → b ≡ true → Asks s l r l' → Comes validating s l o r l' o
    carried f k = allow k (λ q. valid_held h (state_of s o q) a (sym is ∙ f))

  -- ---- the command

  module _ (c : Command) where
    meet : (b : Bool) (q : Bytes) {p : Progress} → channel_command b (some c) (some h) (state_of s o q) ≡ p
        → commanding b (some c) (state_of s o q) ≡ answers Done (p then request)
    meet b q e =
        ap (λ (z : Option R.Handoff). answers Done (channel_command b (some c) z (state_of s o q) then request)) (is-there s.handoff w.present)
        ∙ ap (λ (p : Progress). answers Done (p then request)) e

    pub not_restoring : (b : Bool) {r : Returned} → b ≡ false → Turned s HandoffPending r → Comes (commanding b (some c)) s l o r l o
    unfolding channel_command
    not_restoring b e t = rw e (comes_refused (commanding false (some c)) s l o w.exact t (λ q. meet false q refl))

    other-id : (q : Bytes) → (s.handoff.id ≡ c.id → ⊥) → channel_command true (some c) (some h) (state_of s o q) ≡ halts CommandDiffers (state_of s o q)
    unfolding channel_command
    other-id q n = rw (ne_eqb s.handoff.id c.id n)

    other-body : (q : Bytes) → s.handoff.id ≡ c.id → same h.body c.body ≡ false → channel_command true (some c) (some h) (state_of s o q) ≡ halts CommandDiffers (state_of s o q)
    unfolding channel_command
    other-body q i n = rw (eq-eqb s.handoff.id c.id i, n)

    own : (q : Bytes) → s.handoff.id ≡ c.id → same h.body c.body ≡ true → channel_command true (some c) (some h) (state_of s o q) ≡ validate h (state_of s o q)
    unfolding channel_command
    own q i n = rw (eq-eqb s.handoff.id c.id i, n)

    module _ (b : Bool) (restoring : b ≡ true) where
      pub id-differs : {r : Returned} → (s.handoff.id ≡ c.id → ⊥) → Turned s CommandDiffers r → Comes (commanding b (some c)) s l o r l o
      id-differs n t = rw restoring (comes_refused (commanding true (some c)) s l o w.exact t (λ q. meet true q (other-id q n)))

      pub body-differs : {r : Returned} → s.handoff.id ≡ c.id → same h.body c.body ≡ false → Turned s CommandDiffers r → Comes (commanding b (some c)) s l o r l o
      body-differs i n t = rw restoring (comes_refused (commanding true (some c)) s l o w.exact t (λ q. meet true q (other-body q i n)))

      pub own-handoff : {r : Returned} {l' : List ℕ} → s.handoff.id ≡ c.id → same h.body c.body ≡ true → Comes validating s l o r l' o
          → Comes (commanding b (some c)) s l o r l' o
      own-handoff i n v =
          rw restoring
          (record {
            shown = v.shown;
            does = λ q. meet true q (own q i n) ∙ sym (there q refl) ∙ v.does q;
            exact = v.exact;
            bytes = v.bytes;
            queue = v.queue;
            listed = v.listed;
          })
