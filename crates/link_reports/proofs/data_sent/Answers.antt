use native.Mathlib.Omega.{arith}
use mathlib.Core.Path.{refl, sym, ◌∙◌}
use mathlib.Core.Bool.{true}
use Rattle.link_reports.proofs.Reports.{list-long, messages-sound, other-frame, its_own_frame}
use Rattle.link_reports.proofs.data_sent.Goals as goal

pub mark_sent-requires : goal.mark_sent-requires
mark_sent-requires c =
    messages-sound c.args.words.now c.args.halves.now c.args.bytes.now c.args.list.now c.args.number c.requires

pub emit-requires : goal.emit-requires
emit-requires c =
    omega (arith, list-long c.args.words.now c.args.halves.now c.args.bytes.now c.args.list.now c.args.number c.requires)

pub returns-then-own : goal.returns-then-own
returns-then-own c =
    its_own_frame c.args.words.now c.args.halves.now c.args.bytes.now c.args.list.now c.args.number true c.requires refl _
    c.mark_sent.ensures.flagged c.mark_sent.ensures.bytes (sym c.if-own.true ∙ c.own_frame-own.ensures) c.emit.ensures c.done.ensures

pub returns : goal.returns
returns c =
    other-frame c.args.words.now c.args.halves.now c.args.bytes.now c.args.list.now c.args.number true c.requires refl _
    c.mark_sent.ensures.flagged c.mark_sent.ensures.bytes (sym c.if-own.false ∙ c.own_frame-own.ensures) c.done-2.ensures
