use native.Mathlib.Omega.{arith}
use Rattle.link_numbers.proofs.Changes.{run_releases}
use Rattle.link_numbers.proofs.release.Goals as goal

pub returns : goal.returns
returns c = run_releases c.requires.0 _ c.release_run-left.auto.run c.release_run-left.ensures (omega arith)
