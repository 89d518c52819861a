-- Where the body of a number lies: a turn of the search. Assumes nothing.
use Rattle.std.specs.Prelude.{Some, None}
use mathlib.Core.Path.{◌≡◌, ◌∙◌}
use mathlib.Core.List.{List}
use Prim.Native.Nat.{ℕ, ◌+◌, ◌≤◌, ◌<◌}
use native.Mathlib.Omega.{arith}
use lib.ListN.{length, take, drop, get_or, length-take}
use lib.Seq.{get_or-take}
use Rattle.rules.specs.Lists.{total}
use Rattle.outbox.specs.declared.Unacked.{Unacked}
use Rattle.outbox.specs.View.{len_u, blank_u}
use Rattle.outbox.specs.Records.{place_u}
use Rattle.outbox.proofs.Places as Outbox
use Rattle.parts.specs.Seats.{seats}
use Rattle.parts.specs.Parts.{at, unacked_at}
use Rattle.parts.proofs.Seats.{length-seats, get_d_seats}

-- the records in use
abbrev pub held : List ℕ → List ℕ → ℕ → List Unacked
held h b n = take n (seats 256 (unacked_at h b))

module _ (h b : List ℕ) (n i number start : ℕ) (few : n ≤ 256) where
  length-held : length (held h b n) ≡ n
  length-held = omega (arith, length-take n (seats 256 (unacked_at h b)), length-seats 256 (unacked_at h b))

  module _ (lt : i < n) where
    within : i < length (held h b n)
    within = omega (arith, length-held)

    get_or-held : get_or (held h b n) i blank_u ≡ unacked_at h b i
    get_or-held =
        get_or-take n (seats 256 (unacked_at h b)) i blank_u lt ∙ get_d_seats 256 (unacked_at h b) i blank_u (omega arith)

    pub later : total len_u (drop i (held h b n)) ≡ at h (256 + i) + total len_u (drop (i + 1) (held h b n))
    later = rw get_or-held at (Outbox.total-later (held h b n) i number start within)

    pub found : at h i ≡ number → Some (Outbox.place_at start (at h (256 + i))) ≡ place_u number start (drop i (held h b n))
    found = rw get_or-held at (Outbox.place_here (held h b n) i number start within)

    pub passed : (at h i ≡ number → ⊥) → place_u number (start + at h (256 + i)) (drop (i + 1) (held h b n)) ≡ place_u number start (drop i (held h b n))
    passed = rw get_or-held at (Outbox.place-later (held h b n) i number start within)

  pub missing : n ≤ i → None ≡ place_u number start (drop i (held h b n))
  missing e = Outbox.place_none (held h b n) i number start (omega (arith, length-held))
