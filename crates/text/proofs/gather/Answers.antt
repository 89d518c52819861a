use native.Mathlib.Omega.{arith}
use Rattle.text.proofs.Fields.{grown-long, grown-fits}
use Rattle.text.proofs.gather.Goals.{then-line-n-via-then-line-n, then-line-n-via-else-line-n+then-line-n-2}
use Rattle.text.proofs.gather.Goals as goal

pub returns-then-line-n : goal.returns-then-line-n
returns-then-line-n c =
    elim c.then-line-n.branch [
      | then-line-n-via-then-line-n w ↦ grown-long _ _ _ (omega arith)
      | then-line-n-via-else-line-n+then-line-n-2 w ↦ grown-long _ _ _ (omega arith)
    ]

pub returns : goal.returns
returns c = grown-fits _ _ _ _ (omega arith) c.copy_in.ensures
