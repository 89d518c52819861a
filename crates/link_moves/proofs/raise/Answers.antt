use Rattle.std.proofs.Common.{◌≡◌, ℕ, ◌+◌, ◌-◌, ◌≤◌, List, length, get_or, ap, ◌∙◌, arith}
use Rattle.std.specs.List.{CopiedTo, SameBelow, SameFrom}
use Rattle.link_moves.specs.Moves.{Raised}
use Rattle.link_moves.proofs.raise.Goals as goal

-- whatever run of k elements was copied from a to b, if it is that one
moved_up : {A : Type 0} (l l' : List A) (from end a b k : ℕ) → CopiedTo l l' a b k × SameBelow l l' b × SameFrom l l' (b + k) → length l' ≡ length l
    → a ≡ from → b ≡ from + 1 → b + k ≡ end + 1 → Raised from end l l'
moved_up l l' from end a b k c size is-a is-b is-end =
    record {
      size = size;
      moved = λ i d p q.
          let e : a + (i + 1 - b) ≡ i = omega arith in
          c.0 (i + 1) d (omega arith) (omega arith) ∙ ap (λ (j : ℕ). get_or l j d) e;
      below = λ i d p. c.1 i d (omega arith);
      above = λ i d p. c.2 i d (omega arith);
    }

-- kept, though the check finds it: with it the edits one_for_all and raised_to_itself are refused by what was copied, and not by a search that gave up
pub returns : goal.returns
returns c = λ c'. moved_up c'.args.part.now _ c'.args.from c'.args.end _ _ _ c'.copy_within.ensures.by_index c'.copy_within.ensures.len (omega arith) (omega arith) (omega arith)
