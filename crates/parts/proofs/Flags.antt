-- A test as a number. Assumes nothing.
use Rattle.std.specs.Prelude.{◌≤◌, Bool, true, false}
use Rattle.std.specs.Int.{from_bool}
use native.Mathlib.Omega.{arith}

pub as_few : (t : Bool) → from_bool t ≤ 1
as_few true = omega arith
as_few false = omega arith
