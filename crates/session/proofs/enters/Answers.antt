use Prim.Native.Nat.{◌<◌}
use mathlib.Core.Path.{◌≡◌, refl, sym, ◌∙◌}
use mathlib.Core.Bool.{true}
use mathlib.Core.Logic.{inl, inr}
use native.Mathlib.Omega.{arith}
use borrow.Author.Rules.{rules}
use Rattle.session.proofs.Entry.{lacks_none, spends_none}
use Rattle.session.proofs.enters.Goals as goal

-- Kept, though the check finds them: with them the edits queue_store_not_tested and entry_at_the_last_generation are refused by a bound that is false, and
-- not by a search that gave up.

low : (c : goal.Joined-else-raises) → c.args.raises ≡ true → c.args.s.clock.generation < 4294966000
low c = elim c.else-raises.either [ inl w ↦ λ e. omega arith | inr w ↦ λ e. cc ]

pub returns-then-wrong-clause-tested : goal.returns-then-wrong-clause-tested
returns-then-wrong-clause-tested c =
    let a = c.args in
    record { is = rw (lacks_none a.list a.delivery a.outbound a.queue (omega arith) (omega arith) (omega arith) (omega arith), c.if-wrong.true) refl; full = search rules }

pub returns-clause-tested : goal.returns-clause-tested
returns-clause-tested c =
    let a = c.args in
    record {
      is = rw (lacks_none a.list a.delivery a.outbound a.queue (omega arith) (omega arith) (omega arith) (omega arith), c.if-wrong.false, sym c.sound.ensures.is ∙ c.if-not-sound.false, spends_none a.raises a.s.clock.generation (low c)) refl;
      full = c.sound.ensures.full;
    }

pub returns-clause-passed : goal.returns-clause-passed
returns-clause-passed c =
    record {
      list = omega arith;
      delivery = omega arith;
      outbound = omega arith;
      queue = omega arith;
      known = c.if-wrong.false;
      sound = sym c.sound.ensures.is ∙ c.if-not-sound.false;
      full = c.sound.ensures.full;
      low = low c;
    }
