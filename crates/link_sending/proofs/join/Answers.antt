use borrow.Author.Rules.{rules}
use mathlib.Core.Path.{◌≡◌, refl}
use native.Mathlib.Omega.{arith}
use Rattle.std.specs.Prelude.{Err}
use Rattle.link_sending.proofs.join.Goals as goal

pub returns-in_err-allocate : goal.returns-in_err-allocate
returns-in_err-allocate c =
    let e : c.from_residual.result ≡ Err c.in_err-allocate.field-0.0 = search rules in
    rw e c.in_err-allocate.ensures

pub overflow_add-halves : goal.overflow_add-halves
overflow_add-halves c = omega (arith, c.requires.1)

pub returns : goal.returns
returns c = record { halves = _; joins = c.in_ok-allocate.ensures; raises = refl }
