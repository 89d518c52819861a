-- Rising arrays of numbers. Assumes nothing.
use Rattle.std.specs.Prelude.{ℕ, ◌+◌, ◌-◌, ◌≤◌, ◌≡◌, Bool, List, map, length, take, ltb, if◌then◌else◌}
use Rattle.stores.specs.Fronts.{front}
use Rattle.rules.specs.Lists.{kept}
use Rattle.rules.specs.Commits.{releases_ack}
use Rattle.rules.specs.Events.{send_ack}
use Rattle.events.specs.Written.{Listed}
use Rattle.numbers.specs.declared.Numbers.{Numbers}
use Rattle.numbers.specs.declared.Released.{Released}
use Rattle.numbers.specs.declared.ReleasedRun.{ReleasedRun}

-- entries past the count are no part of the set
abbrev pub in_use : Numbers → List ℕ
in_use v = take v.count v.values

pub record ExactNumbers (v : Numbers) : Type 0 where
  pub full : length v.values ≡ 512
  pub few : v.count ≤ 512

-- the numbers ns, and no others
pub record Holds (ns : List ℕ) (r : Numbers) : Type 0 where
  pub count : r.count ≡ length ns
  pub held : in_use r ≡ ns
  pub exact : ExactNumbers r

abbrev pub under : ℕ → ℕ → Bool
under n k = ltb k n

-- the index of the first that is not below n
unfoldable pub seat_of : ℕ → List ℕ → ℕ
seat_of n ns = front (under n) ns

-- how far a cursor goes on with an element that stays, or goes
abbrev pub step : Bool → ℕ
step t = if t then 1 else 0

-- a run without its last place
abbrev pub but_last : List ℕ → List ℕ
but_last run = take (length run - 1) run

-- the numbers ns lead a run, and there are k of them
pub record Leads (ns : List ℕ) (k : ℕ) (run : List ℕ) : Type 0 where
  pub count : k ≡ length ns
  pub held : take k run ≡ ns

-- what a commit releases of a run: acks up to a number are listed, later ones stay
pub record ReleasesRun (upto : ℕ) (run l : List ℕ) (n : ℕ) (run' : List ℕ) (r : ReleasedRun) (l' : List ℕ) : Type 0 where
  pub leads : Leads (kept (ltb upto) run) r.count run'
  pub few : r.events ≤ n + length run
  pub listed : Listed (map send_ack (kept (releases_ack upto) run)) l n l' r.events

-- and what of a set
pub record ReleasesAcks (upto : ℕ) (v : Numbers) (l : List ℕ) (n : ℕ) (r : Released) (l' : List ℕ) : Type 0 where
  pub holds : Holds (kept (ltb upto) (in_use v)) r.numbers
  pub few : r.events ≤ n + v.count
  pub listed : Listed (map send_ack (kept (releases_ack upto) (in_use v))) l n l' r.events
