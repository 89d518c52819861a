-- The steps of a command. Assumes nothing.
use mathlib.Core.Path.{◌≡◌, refl, sym, ap, ◌∙◌}
use mathlib.Core.Bool.{Bool, true, false}
use mathlib.Core.List.{List, []}
use mathlib.Core.Option.{Option, none, some}
use Prim.Native.Nat.{ℕ}
use lib.ListN.{length, take}
use Rattle.rules.specs.declared.Answer.TheVariants.{Done, Refused}
use Rattle.rules.specs.declared.Refusal.{Refusal}
use Rattle.rules.specs.declared.Refusal.TheVariants.{HandoffWithoutCommand}
use Rattle.rules.specs.Lists.{Bytes}
use Rattle.rules.specs.State as R
use Rattle.rules.specs.State.{handoff_is}
use Rattle.rules.specs.Progress.{Progress, stays, ◌then◌, request, Outcome, outcome, answers}
use Rattle.rules.specs.Handoff.{Command, handing_off, channel_command}
use Rattle.rules.specs.Sending.{allocate}
use Rattle.std.specs.Prelude.{Ok, Err}
use Rattle.events.specs.Written.{asked}
use Rattle.events.proofs.Laws.{listed-none}
use Rattle.outbox.specs.View.{ExactOutbox}
use Rattle.peer_session.specs.declared.TerminalHandoff.{TerminalHandoff}
use Rattle.peer_session.specs.declared.SessionState.{SessionState}
use Rattle.peer_session.specs.View.{handoff_of, state_of, Exact}
use Rattle.session.specs.declared.Returned.{Returned}
use Rattle.session.specs.Promise.{Turned}
use Rattle.setup.specs.Steps.{Joins, Asks, Comes}
use Rattle.outbox.proofs.View.{stays-packed}
use Rattle.setup.proofs.Steps.{turned_is, stopped}
use Rattle.handoffs.specs.Commands.{commanding, HandsOver}

-- ---- a step that leaves both stores

module _ (rule : R.State → Outcome) (s : SessionState) (l : List ℕ) (o : Bytes) (ex : ExactOutbox s.outbox (length o)) where
  pub comes_refused : {r : Returned} {x : Refusal} → Turned s x r → ((q : Bytes) → rule (state_of s o q) ≡ outcome (state_of s o q) (Refused x) []) → Comes rule s l o r l o
  comes_refused t f =
      rw (turned_is t)
      (record { shown = []; does = f; exact = λ size e. e; bytes = stays-packed s.outbox o ex; queue = refl; listed = λ us. listed-none l 0 })

  pub comes_done : {r : Returned} {l' : List ℕ} → Asks s l r l' → ((q : Bytes) → rule (state_of s o q) ≡ answers Done (request (state_of s o q))) → Comes rule s l o r l' o
  unfolding request
  comes_done h f =
      rw h.is
      (record { shown = asked s.clock; does = f; exact = λ size e. e; bytes = stays-packed s.outbox o ex; queue = refl; listed = h.listed })

-- ---- the handoff that there is

abbrev pub given : TerminalHandoff → R.Handoff
given h = record { id = h.id; number = h.number; body = take h.len h.body; sent = h.sent; acknowledged = h.acknowledged }

pub is-there : (h : TerminalHandoff) → h.present ≡ true → handoff_of h ≡ some (given h)
is-there h e = rw e refl

pub is-absent : (h : TerminalHandoff) → h.present ≡ false → handoff_of h ≡ none
is-absent h e = rw e refl

-- ---- no command

plain_none : (h : Option R.Handoff) (t : R.State) → channel_command false none h t ≡ stays t
unfolding channel_command
plain_none none t = refl
plain_none (some h) t = refl

abbrev by_handoff : Bool → Option Command → R.State → Option R.Handoff → Outcome
by_handoff b c t h = answers Done (channel_command b c h t then request)

module _ (s : SessionState) (l : List ℕ) (o : Bytes) (ex : ExactOutbox s.outbox (length o)) where
  pub no_command : (b : Bool) {r : Returned} {l' : List ℕ} → b ≡ false → Asks s l r l' → Comes (commanding b none) s l o r l' o
  unfolding request
  no_command b e h =
      rw e
      (comes_done (commanding false none) s l o ex h
      (λ q. ap (λ (p : Progress). answers Done (p then request)) (plain_none (handoff_of s.handoff) (state_of s o q))))

  pub no_handoff : (b : Bool) {r : Returned} {l' : List ℕ} → s.handoff.present ≡ false → Asks s l r l' → Comes (commanding b none) s l o r l' o
  unfolding channel_command request
  no_handoff b e h =
      comes_done (commanding b none) s l o ex h
      (λ q. ap (by_handoff b none (state_of s o q)) (is-absent s.handoff e))

  pub without_command : (b : Bool) {r : Returned} → b ≡ true → s.handoff.present ≡ true → Turned s HandoffWithoutCommand r → Comes (commanding b none) s l o r l o
  unfolding channel_command
  without_command b f e t =
      rw f
      (comes_refused (commanding true none) s l o ex t
      (λ q. ap (by_handoff true none (state_of s o q)) (is-there s.handoff e)))

-- ---- a command with no handoff

abbrev pub handing : TerminalHandoff → SessionState → SessionState
handing h s =
    record {
      outbox = s.outbox;
      remote = s.remote;
      released = s.released;
      queue = s.queue;
      waiting = s.waiting;
      retry = s.retry;
      clock = s.clock;
      stage = s.stage;
      handoff = h;
      policy = s.policy;
      reject = s.reject;
    }

sending : (b : Bool) (c : Command) (s : SessionState) (o q : Bytes) → s.handoff.present ≡ false → {p : Progress} → allocate c.body s.stage.disposition (state_of s o q) ≡ p
    → commanding b (some c) (state_of s o q) ≡ answers Done (p then handing_off c s.outbox.next then request)
unfolding channel_command
sending b c s o q absent e =
    ap (by_handoff b (some c) (state_of s o q)) (is-absent s.handoff absent)
    ∙ ap (λ (p : Progress). answers Done (p then handing_off c s.outbox.next then request)) e

module _ (b : Bool) (c : Command) {s : SessionState} {l : List ℕ} {o o' : Bytes} (absent : s.handoff.present ≡ false) where
  pub hand_stopped : {x : Refusal} → Joins c.body s.stage.disposition s o (Err x) o' → {r : Returned} → Turned s x r → Comes (commanding b (some c)) s l o r l o'
  hand_stopped j t = stopped j t (λ q u h. sending b c s o q absent h)

  pub handed_off : {a : SessionState} → Joins c.body s.stage.disposition s o (Ok a) o' → {h : TerminalHandoff} → HandsOver c.id s.outbox.next c.body h
      → {r : Returned} {l' : List ℕ} → Asks (handing h a) l r l' → Comes (commanding b (some c)) s l o r l' o'
  unfolding request
  handed_off {a} j w k =
      rw k.is
      (record {
        shown = asked a.clock;
        does = λ q.
            sending b c s o q absent (j.does q)
            ∙ ap (λ (z : Option R.Handoff). outcome (handoff_is z (state_of a o' q)) Done (asked a.clock)) (sym w.is);
        exact = λ size ex.
            let x : Exact a (length o') size = j.exact size ex in
            record {
              outbox = x.outbox;
              queued = x.queued;
              rest = record { waiting = x.rest.waiting; retry = x.rest.retry; handoff = w.full; handed = w.size; reject = x.rest.reject; rejects = x.rest.rejects };
            };
        bytes = j.bytes;
        queue = j.queue;
        listed = k.listed;
      })
