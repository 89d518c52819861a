use mathlib.Core.Path.{refl, sym, ◌∙◌}
use borrow.Author.Tests.{ltb-false}
use Rattle.rules.specs.Calls.{is_ready}
use Rattle.rules.specs.Buffers.{taken_by, short, wrong_code}
use Rattle.session.specs.Promise.{lent}
use Rattle.session.proofs.Entries.{stops, stopped_at}
use Rattle.consumers.proofs.Consumers.{ready_code, ready_spent, ready-reach}
use Rattle.consumers.proofs.consumer_ready.Goals as goal

pub returns-in-Err : goal.returns-in-Err
unfolding taken_by short wrong_code
returns-in-Err c =
    let code = ready_code c.args.status c.args.mode c.try_from-read.result c.try_from-read.ensures ∙ sym c.is_err.ensures.value in
    stops (is_ready c.args.status c.args.mode) c.args.s (lent c.args.list.now c.args.delivery.now c.args.outbound.now c.args.queue.now)
    c.enters-entered.ensures.tested (stopped_at c.try_from-read.result c.is_err.ensures.value c.enters-entered.ensures.tested (sym c.and.ensures ∙ c.in-Err.is)) c.refused.ensures refl code (λ h. h) (λ h. h)
    (λ e k t h. (ready_spent c.args.status c.args.mode t (ltb-false _ _ (code ∙ k)) h, ready-reach c.args.status c.args.mode t))
