use Rattle.handoffs.specs.Commands.{lent_command}
use Rattle.handoffs.proofs.Steps.{hand_stopped, handed_off}
use Rattle.handoffs.proofs.hand_off.Goals as goal

pub returns-in-Ok : goal.returns-in-Ok
returns-in-Ok c = λ b. handed_off b (lent_command c.args.c) c.requires.1.absent c.in-Ok.ensures c.handed-r.ensures c.done.ensures

pub returns-in-Err : goal.returns-in-Err
returns-in-Err c = λ b. hand_stopped b (lent_command c.args.c) c.requires.1.absent c.in-Err.ensures c.refused.ensures
