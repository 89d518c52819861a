-- `link_commits::release_by` meets its contract, by whether its generation was released already. Assumes nothing.
use Rattle.link_commits.proofs.Releases.{released-before, released_now}
use Rattle.link_commits.proofs.release_by.Goals as goal

pub returns-then-commit-halves : goal.returns-then-commit-halves
returns-then-commit-halves c =
    released-before c.args.commit c.args.words.now c.args.halves.now c.args.bytes.now c.args.list.now c.if-commit-halves.true

pub returns : goal.returns
returns c =
    released_now c.args.commit c.args.words.now c.args.halves.now c.args.bytes.now c.args.list.now c.if-commit-halves.false c.requires _ _ _ _ c.release-sent.result c.release-n.result c.release-sent.ensures.released c.release-sent.ensures.bytes c.release-n.ensures.released c.release-n.ensures.only
