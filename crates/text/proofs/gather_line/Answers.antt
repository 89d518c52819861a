use Rattle.text.proofs.Fields.{gathered_whole, gathered_part}
use Rattle.text.proofs.gather_line.Goals as goal

pub returns-then-e-chunk : goal.returns-then-e-chunk
returns-then-e-chunk c = gathered_whole _ _ c.find-e.ensures c.gather-size.ensures c.if-e-chunk.true

pub returns-else-e-chunk : goal.returns-else-e-chunk
returns-else-e-chunk c = gathered_part _ _ c.find-e.ensures c.gather-size.ensures c.if-e-chunk.false
