use mathlib.Core.Path.{refl, sym, ◌∙◌}
use Rattle.peer_session.proofs.View.{parts}
use Rattle.session.proofs.Lengths.{not_taken}
use Rattle.setup.proofs.Retires.{retained, forgot, still_exact}
use Rattle.rules.specs.Calls.{retires}
use Rattle.rules.specs.Buffers.{taken_by, short, wrong_code}
use Rattle.session.specs.Promise.{lent}
use Rattle.session.proofs.Entries.{stops}
use Rattle.setup.proofs.retire.Goals as goal

pub returns-in-Err : goal.returns-in-Err
unfolding taken_by short wrong_code
returns-in-Err c = λ l d. stops (retires c.args.retain) c.args.s (lent l d c.args.outbound.now c.args.queue.now) c.enters.ensures.tested c.in-Err.is c.refused.ensures refl refl (λ h. h) (λ h. h) not_taken

pub retired-r-requires : goal.retired-r-requires
retired-r-requires c = (parts c.args.s c.in_default.ensures.passed.sound c.in_default.ensures.passed.full).queued c.args.queue.now c.in_default.ensures.passed.queue

pub returns-then-retains : goal.returns-then-retains
returns-then-retains c = λ l d. retained c.args.retain c.args.s l d c.args.outbound.now c.args.queue.now c.in_default.ensures.passed.outbound c.in_default.ensures.passed.queue c.in_default.ensures.passed.sound c.in_default.ensures.passed.full c.retired-r.ensures (sym c.retains.ensures ∙ c.if-retains.true)

pub forget-requires : goal.forget-requires
forget-requires c = still_exact c.retired-r.ensures ((parts c.args.s c.in_default.ensures.passed.sound c.in_default.ensures.passed.full).unacked c.args.outbound.now c.in_default.ensures.passed.outbound)

pub returns : goal.returns
returns c = λ l d. forgot c.args.retain c.args.s l d c.args.outbound.now c.args.queue.now c.in_default.ensures.passed.outbound c.in_default.ensures.passed.queue c.in_default.ensures.passed.sound c.in_default.ensures.passed.full c.retired-r.ensures (sym c.retains.ensures ∙ c.if-retains.false) c.forget.ensures
