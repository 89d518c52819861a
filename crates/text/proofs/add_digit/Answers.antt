use Rattle.std.proofs.Common.{rules}
use native.Mathlib.Omega.{arith}
use Prim.Native.Nat.{◌+◌, ◌*◌, ◌≤◌}
use mathlib.Core.Path.{◌≡◌}
use Rattle.text.specs.Numbers.{digit_of}
use Rattle.text.proofs.Numbers.{digit_none, digit_much, digit_fits, digit_room}
use Rattle.text.proofs.add_digit.Goals.{then-base-d-via-then-base-d, then-base-d-via-else-base-d+then-d-base}
use Rattle.text.proofs.add_digit.Goals as goal

pub returns-then-base-d : goal.returns-then-base-d
returns-then-base-d c =
    let is_digit : c.from-d.result ≡ digit_of c.args.b = search rules in
    elim c.then-base-d.branch [
      | then-base-d-via-then-base-d w ↦ digit_none _ _ _ is_digit w.if-base-d.true
      | then-base-d-via-else-base-d+then-d-base w ↦ digit_much _ _ _ is_digit c.requires w.if-base-d.false (omega arith) w.if-d-base.true
    ]

pub returns : goal.returns
returns c =
    let is_digit : c.from-d.result ≡ digit_of c.args.b = search rules in
    let room : c.args.n * c.args.base + c.from-d.result ≤ 18446744073709551615 = digit_room _ _ _ c.requires (omega arith) c.if-d-base.false in
    digit_fits _ _ _ is_digit c.if-base-d.false room
