use native.Mathlib.Omega.{arith}
use lib.Seq.{take_all}
use Rattle.std.proofs.Common.{rules, tests, ◌≡◌, ◌∙◌, ◌-◌, ℕ, List, length, take, drop, length-drop}
use Rattle.std.specs.List.{position}
use Rattle.std.proofs.lemmas.Iterator.{YieldsList-from_slice}
use Rattle.std.proofs.lemmas.Iterator.Search.{position_from_yields_List}
use Rattle.text.specs.Fields.{is}
use Rattle.text.proofs.Fields.{found_some, found_none}
use Rattle.text.proofs.find.Goals as goal

-- the slice from an index on
rest : (s : List ℕ) (at : ℕ) {r : List ℕ} → r ≡ take (length s - at) (drop at s) → r ≡ drop at s
rest s at e = e ∙ take_all _ _ (omega (arith, length-drop at s))

some : (c : goal.In-Some) → c.position.result ≡ position (is c.args.b) (drop c.args.at c.args.s.now)
some c =
    position_from_yields_List (is c.args.b) _ _ c.position.result c.position.ensures.ran
    (YieldsList-from_slice (drop c.args.at c.args.s.now) (rest c.args.s.now c.args.at (search rules)))
    (λ x b q k. search (rules, tests))

none : (c : goal.In-None) → c.position.result ≡ position (is c.args.b) (drop c.args.at c.args.s.now)
none c =
    position_from_yields_List (is c.args.b) _ _ c.position.result c.position.ensures.ran
    (YieldsList-from_slice (drop c.args.at c.args.s.now) (rest c.args.s.now c.args.at (search rules)))
    (λ x b q k. search (rules, tests))

pub returns-in-Some : goal.returns-in-Some
returns-in-Some c = found_some _ _ _ c.requires (some c) _ c.in-Some.is

pub returns-in-None : goal.returns-in-None
returns-in-None c = found_none _ _ _ c.requires (none c) c.in-None.is
