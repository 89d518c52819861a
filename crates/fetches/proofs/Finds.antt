-- A fetch, test by test. Assumes nothing.
use Rattle.std.specs.Prelude.{Option, None, unwrap_or}
use mathlib.Core.Path.{◌≡◌, refl, sym, ap, ◌∙◌}
use mathlib.Core.Bool.{true, false}
use mathlib.Core.List.{List, []}
use Prim.Native.Nat.{ℕ, ◌≤◌, ◌<◌}
use native.Mathlib.Omega.{arith}
use lib.ListN.{length}
use Rattle.rules.specs.declared.Answer.{Answer}
use Rattle.rules.specs.declared.Answer.TheVariants.{Done, Number, Flag, Prepared, Held, NotHeld, Refused}
use Rattle.rules.specs.Lists.{Bytes}
use Rattle.rules.specs.Progress.{outcome}
use Rattle.rules.specs.Replay.{fetch}
use Rattle.rules.specs.Calls.{fetches, step}
use Rattle.rules.specs.Buffers.{taken_by, short, wrong_code}
use Rattle.outbox.specs.declared.Place.{Place}
use Rattle.outbox.specs.View.{used_u}
use Rattle.outbox.specs.Records.{place_u, answer_of}
use Rattle.outbox.proofs.Places.{place-unacked}
use Rattle.peer_session.specs.declared.SessionState.{SessionState}
use Rattle.peer_session.specs.View.{state_of}
use Rattle.peer_session.specs.Sound.{sound_of, Full}
use Rattle.session.specs.Promise.{Exit, lent}
use Rattle.session.proofs.Promises.{outbound-same}
use Rattle.session.proofs.Lengths.{long-enough, not_taken}
use Rattle.session.proofs.Entry.{Entered, entered, meets}
use Rattle.fetches.specs.Fetched.{AnsweredWithOutbound, part_if, part_of, FetchedIf, Fetched}

module _ (n : ℕ) (s : SessionState) (o : Bytes) where
  known : wrong_code (fetches n) ≡ false
  unfolding wrong_code
  known = refl

  module _ (lo : 65536 ≤ length o) where
    long : (l : List ℕ) (d q : Bytes) → short (taken_by (fetches n)) (lent l d o q) ≡ false
    unfolding taken_by
    long l d q = long-enough (taken_by (fetches n)) (lent l d o q) not_taken not_taken (λ e. lo) not_taken

    module _ (e : sound_of s ≡ true) (full : Full s) {p at : Option Place} (is : p ≡ place_u n 0 (used_u s.outbox)) (found : p ≡ at) where
      pub find_sound : AnsweredWithOutbound (fetches n) s o (answer_of at)
      unfolding taken_by step fetch
      find_sound l d q lq =
          let i : Entered s o q = entered s o q e full lo lq in
          meets (fetches n) s (lent l d o q) (long l d q) known {r = s} e
          (record {
            left = state_of s o q;
            events = [];
            does = ap (λ (a : Answer). outcome (state_of s o q) a []) (sym (ap answer_of (sym found ∙ is) ∙ place-unacked n s.outbox o (omega (arith, i.good.exact.outbox.small))));
            session = i.held-is;
            count = refl;
            list = refl;
            delivery = refl;
            outbound = sym (outbound-same i.stored);
            queue = refl;
          })

-- ---- the body, by what is answered

pub no_part : (a : Answer) (o : Bytes) → ((x y : ℕ) → a ≡ Held x y → ⊥) → None ≡ part_if a o
no_part Done o h = refl
no_part (Number n) o h = refl
no_part (Flag b) o h = refl
no_part (Prepared c) o h = refl
no_part (Held x y) o h = absurd (h x y refl)
no_part NotHeld o h = refl
no_part (Refused x) o h = refl

part_or : (a : Answer) (o : Bytes) → unwrap_or (part_if a o) [] ≡ part_of a o
part_or Done o = refl
part_or (Number n) o = refl
part_or (Flag b) o = refl
part_or (Prepared c) o = refl
part_or (Held x y) o = refl
part_or NotHeld o = refl
part_or (Refused x) o = refl

module _ (n : ℕ) (s : SessionState) (o : Bytes) where
  pub held_by : {a : Answer} → AnsweredWithOutbound (fetches n) s o a → FetchedIf n s o (part_if a o)
  held_by h l d q lq = ap (λ (e : Exit). part_if e.answer o) (h l d q lq)

  pub fetched_by : {r : Option Bytes} → FetchedIf n s o r → Fetched n s o (unwrap_or r [])
  fetched_by h l d q lq = ap (λ (r : Option Bytes). unwrap_or r []) (h l d q lq) ∙ part_or _ o
