use Rattle.setup.proofs.Steps.{proposal_stopped, proposed}
use Rattle.setup.proofs.propose.Goals as goal

pub returns-in-Ok : goal.returns-in-Ok
returns-in-Ok c = λ l. proposed c.args.terms c.in-Ok.ensures c.accepted.ensures

pub returns-in-Err : goal.returns-in-Err
returns-in-Err c = λ l. proposal_stopped c.args.terms c.in-Err.ensures c.refused.ensures
