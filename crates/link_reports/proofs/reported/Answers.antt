use mathlib.Core.Path.{refl, ap}
use Rattle.rules.specs.Codes.{frame_kind_number}
use Rattle.link_reports.proofs.Reports.{retries, may_retry, reported_as, unsent}
use Rattle.link_reports.proofs.reported.Goals as goal

pub returns-in-Data-2 : goal.returns-in-Data-2
returns-in-Data-2 c =
    reported_as c.args.words.now c.args.halves.now c.args.bytes.now c.args.list.now c.args.number (ap frame_kind_number c.in-Data-2.is) refl
    (unsent c.args.words.now c.args.halves.now c.args.bytes.now c.args.list.now c.args.number c.args.accepted c.requires c.if-accepted.false c.done.ensures)

pub ack_sent-requires : goal.ack_sent-requires
ack_sent-requires c = (
  retries c.args.words.now c.args.halves.now c.args.bytes.now c.args.list.now c.args.number c.requires,
  may_retry c.args.words.now c.args.halves.now c.args.bytes.now c.args.list.now c.args.number c.requires,
)
