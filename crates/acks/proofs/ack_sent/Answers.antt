use Rattle.acks.proofs.Reports.{sent_ack}
use Rattle.acks.proofs.ack_sent.Goals as goal

pub returns : goal.returns
returns c = λ l. sent_ack c.args.number c.args.s c.take_out-left.result l c.take_out-left.ensures
