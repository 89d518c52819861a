use Prim.Native.Nat.{ℕ, ◌+◌, ◌≤◌, ◌<◌}
use lib.ListN.{length, get_or}
use Rattle.std.proofs.Common.{rules}
use Rattle.link_numbers.proofs.Asked.{run, seat_after, seat_first}
use Rattle.link_numbers.proofs.seat.Goals as goal

pub returns-in-Some : goal.returns-in-Some
returns-in-Some c =
    let a = c.args in
    let few = c.requires.0.few in
    let ns = run a.from a.count a.words.now few c.requires.1 a.n in
    let inside : c.in-Some.j < length ns = search rules in
    let below : get_or ns c.in-Some.j 0 < a.n = search rules in
    let above : (k : ℕ) → c.in-Some.j + 1 ≤ k → k < length ns → a.n ≤ get_or ns k 0 = search rules in
    seat_after a.from a.count a.words.now few c.requires.1 a.n c.in-Some.j inside below above

pub returns-in-None : goal.returns-in-None
returns-in-None c =
    let a = c.args in
    let few = c.requires.0.few in
    let ns = run a.from a.count a.words.now few c.requires.1 a.n in
    let above : (k : ℕ) → k < length ns → a.n ≤ get_or ns k 0 = search rules in
    seat_first a.from a.count a.words.now few c.requires.1 a.n above
