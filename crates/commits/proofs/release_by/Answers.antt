-- `commits::release_by` meets its contract, by whether its generation was released already. Assumes nothing.
use Rattle.commits.proofs.Releases.{released-before, released_now}
use Rattle.commits.proofs.release_by.Goals as goal

pub returns-then-commit-s : goal.returns-then-commit-s
returns-then-commit-s c = released-before c.args.commit c.args.s c.args.list.now c.if-commit-s.true

pub returns : goal.returns
returns c = released_now c.args.commit c.args.s c.args.list.now c.release-frames.result c.release-acks.result c.release-frames.new.list c.release-acks.new.list c.if-commit-s.false c.requires c.release-frames.ensures c.release-acks.ensures
