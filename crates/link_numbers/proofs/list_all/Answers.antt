use mathlib.Core.Path.{subst}
use mathlib.Core.List.{List, map}
use Prim.Native.Nat.{ℕ}
use Rattle.events.specs.Written.{Listed}
use Rattle.rules.specs.Events.{send_ack}
use Rattle.link_numbers.proofs.Asked.{run_is}
use Rattle.link_numbers.proofs.list_all.Goals as goal

pub returns-clause-listed : goal.returns-clause-listed
returns-clause-listed c =
    subst (λ (ns : List ℕ). Listed (map send_ack ns) c.args.list.now c.args.n c.list_run.new.list c.list_run.result) (run_is c.args.from _ c.args.words.now c.requires.0.exact.few) c.list_run.ensures.listed
