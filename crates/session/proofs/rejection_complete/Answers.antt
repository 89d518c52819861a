use Rattle.session.proofs.Queries.{complete_yes}
use native.Mathlib.Omega.{arith}
use Rattle.session.proofs.rejection_complete.Goals as goal

pub returns-then-s : goal.returns-then-s
returns-then-s c = λ o q. complete_yes _ c.args.s.outbox o (omega arith) c.if-s.true
