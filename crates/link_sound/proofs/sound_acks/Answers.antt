use Prim.Native.Nat.{ℕ, ◌-◌}
use mathlib.Core.Bool.{Bool, ◌&&◌}
use mathlib.Core.Path.{◌≡◌, ap, ◌∙◌}
use lib.Dec.{leb}
use native.Mathlib.Omega.{arith}
use Rattle.std.proofs.lemmas.Grind.{common_steps}
use Rattle.rules.specs.Lists.{all, rising, itself}
use Rattle.rules.specs.Sound.{at_most}
use Rattle.numbers.specs.declared.Numbers.{Numbers}
use Rattle.numbers.specs.Seats.{in_use}
use Rattle.peer_session.specs.Sound.{sound_acks}
use Rattle.parts.specs.Parts.{at, waiting_in, retry_in}
use Rattle.link_sound.proofs.sound_acks.Goals as goal

-- What is tested of the acks before the order of the retries, and that order. Kept, though the check finds the proof: with it the edit retries_not_looked_at is
-- refused by whose order is tested, and not by a search that gave up.
abbrev ordered : Numbers → Numbers → ℕ → ℕ → Bool → Bool
ordered w r queued remote t =
    leb w.count 512 && (leb queued (512 - w.count) && (leb r.count 512 && (rising itself 0 (in_use w) && (all (at_most remote) (in_use w) && t))))

passed : (c : goal.After-ascends) (t : Bool) → t ≡ ordered (waiting_in c.args.words.now) (retry_in c.args.words.now) (at c.args.words.now 4) (at c.args.words.now 2) t
passed c t = grind (arith, common_steps)

pub returns-then-at_most : goal.returns-then-at_most
unfolding sound_acks
returns-then-at_most c =
    passed c c.ascends.result
    ∙ ap (ordered (waiting_in c.args.words.now) (retry_in c.args.words.now) (at c.args.words.now 4) (at c.args.words.now 2)) c.ascends.ensures
