-- `link_codes::reject_in` meets its contract: the bytes copied are the body. Assumes nothing.
use Prim.Native.Nat.{ℕ, ◌+◌, ◌≤◌}
use mathlib.Core.Path.{ap}
use mathlib.Core.List.{List}
use native.Mathlib.Omega.{arith}
use lib.ListN.{length}
use Rattle.parts.specs.Parts.{at}
use Rattle.link_codes.proofs.Bodies.{fits, copied}
use Rattle.link_codes.proofs.reject_in.Goals as goal

pub copy_in-requires : goal.copy_in-requires
copy_in-requires c = let room : 4872 + 64 ≤ length c.args.bytes.now = omega arith in fits 4872 64 c.args.bytes.now (room) c.part-held.ensures

pub returns : goal.returns
returns c = let room : 4872 + 64 ≤ length c.args.bytes.now = omega arith in
    ap (λ (l : List ℕ). record { bytes = l; len = at c.args.words.now 14 })
    (copied 4872 64 c.args.bytes.now (room) c.part-held.ensures c.copy_in.new.store c.copy_in.ensures)
