use Prim.Native.Nat.{ℕ}
use mathlib.Core.Path.{ap, ◌∙◌}
use native.Mathlib.Omega.{arith}
use lib.ListN.{take, drop, length-drop}
use Rattle.stores.specs.Placed.{placed}
use Rattle.stores.proofs.Laws.{paste-placed, placed_same}
use Rattle.stores.proofs.move_run.Goals as goal

pub returns-then-to-from : goal.returns-then-to-from
returns-then-to-from g c =
    let a = c.args in
    placed_same a.store.now a.to a.n (omega arith) ∙ ap (λ (k : ℕ). placed a.store.now a.to (take a.n (drop k a.store.now))) c.if-to-from.true

pub returns : goal.returns
returns g c = c.copy_within.ensures.after ∙ paste-placed _ _ _ _ _ (omega arith) (simp length-drop (omega arith))
