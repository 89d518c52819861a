-- What a release and a replay list once the loop is done. Assumes nothing.
use mathlib.Core.Path.{sym}
use mathlib.Core.List.{List, map}
use Prim.Native.Nat.{ℕ, ◌≤◌}
use native.Mathlib.Omega.{arith}
use Rattle.rules.specs.Commits.{releases, release}
use Rattle.rules.specs.Replay.{not_pending}
use Rattle.rules.proofs.Events.{start-release}
use Rattle.outbox.specs.declared.Outbox.{Outbox}
use Rattle.outbox.specs.View.{unacked_of}
use Rattle.outbox.specs.Steps.{Releases, Replays}
use Rattle.outbox.proofs.Flags.{Flagging, flagging_all, release-flags}
use Rattle.outbox.proofs.Listings.{Listing, listing-all, listed-starts}

module _ {x : Outbox} {l₀ : List ℕ} {n : ℕ} {l : List ℕ} {k at i : ℕ} where
  -- the flags do not move a body, so the words are those of the messages that are left
  pub released : (upto : ℕ) (r : Outbox) → Flagging (release-flags upto) x r i → Listing (releases upto) x l₀ n l k at i → x.count ≤ i
      → Releases upto x l₀ n (record { outbox = r; events = k }) l
  released upto r f g h =
      record {
        flagged = flagging_all (release-flags upto) f h;
        few = omega (arith, g.few, g.within);
        listed = λ o e.
            listed-starts (unacked_of x o) (map (release upto) (unacked_of x o)) (λ m. sym (start-release upto m (unacked_of x o))) (listing-all g h o e);
      }

  pub replayed : Listing not_pending x l₀ n l k at i → x.count ≤ i → Replays x l₀ n l k
  replayed g h = record { few = omega (arith, g.few, g.within); listed = listing-all g h }
