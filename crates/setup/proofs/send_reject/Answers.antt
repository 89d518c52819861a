use Rattle.setup.proofs.Steps.{rejection_stopped, rejected}
use Rattle.setup.proofs.send_reject.Goals as goal

pub returns-in-Ok : goal.returns-in-Ok
returns-in-Ok c = rejected c.in-Ok.ensures c.done.ensures

pub returns-in-Err : goal.returns-in-Err
returns-in-Err c = rejection_stopped c.in-Err.ensures c.refused.ensures
