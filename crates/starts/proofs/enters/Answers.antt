use Rattle.starts.proofs.Begins.{short-outbound, short-queue, judged}
use Rattle.starts.proofs.enters.Goals as goal

pub returns-then-outbound-lt-OUTBOUND_BYTES : goal.returns-then-outbound-lt-OUTBOUND_BYTES
returns-then-outbound-lt-OUTBOUND_BYTES c = short-outbound c.args.«record».reliable c.args.«record».numbers.now c.args.«record».lengths.now c.args.«record».bodies.now c.args.policy c.args.reject.now c.if-outbound-lt-OUTBOUND_BYTES.true

pub returns-then-queue-lt-QUEUE_BYTES : goal.returns-then-queue-lt-QUEUE_BYTES
returns-then-queue-lt-QUEUE_BYTES c = short-queue c.args.«record».reliable c.args.«record».numbers.now c.args.«record».lengths.now c.args.«record».bodies.now c.args.policy c.args.reject.now c.if-outbound-lt-OUTBOUND_BYTES.false c.if-queue-lt-QUEUE_BYTES.true

pub returns : goal.returns
returns c = judged c.args.«record».reliable c.args.«record».numbers.now c.args.«record».lengths.now c.args.«record».bodies.now c.args.policy c.args.reject.now c.if-outbound-lt-OUTBOUND_BYTES.false c.if-queue-lt-QUEUE_BYTES.false c.judge.ensures
