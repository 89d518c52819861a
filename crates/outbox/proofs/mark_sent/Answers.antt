use Rattle.outbox.proofs.Flags.{flagging_more, flagging_all, sent-flags}
use Rattle.outbox.proofs.mark_sent.Goals as goal

pub loop-i-preserved : goal.loop-i-preserved
loop-i-preserved c = flagging_more (sent-flags c.args.number) c.loop-i.invariant c.loop-i-test.true c.sent_one.result c.sent_one.ensures

pub returns : goal.returns
returns c = flagging_all (sent-flags c.args.number) c.loop-i.invariant c.loop-i-test.false
