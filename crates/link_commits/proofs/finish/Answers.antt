-- `link_commits::finish` meets its contract, by what its three steps ensure. Assumes nothing.
use mathlib.Core.Path.{sym, ◌∙◌}
use native.Mathlib.Omega.{arith}
use Rattle.link_commits.proofs.Completes.{may, went}
use Rattle.link_commits.proofs.finish.Goals as goal

pub release_by-released-requires : goal.release_by-released-requires
release_by-released-requires c =
    may c.args.words.now c.args.halves.now c.args.bytes.now c.args.clock.now c.args.list.now c.args.commit c.args.persisted c.requires c.persisted_by-after.result (λ s e. c.persisted_by-after.ensures s (e ∙ sym c.clock_in-k.ensures))

pub notify_committed-n-requires : goal.notify_committed-n-requires
notify_committed-n-requires c =
    omega (arith, (c.release_by-released.ensures c.args.clock.now).few, c.requires.list)

pub returns : goal.returns
returns c =
    went c.args.words.now c.args.halves.now c.args.bytes.now c.args.clock.now c.args.list.now c.args.commit c.args.persisted c.requires c.persisted_by-after.result (λ s e. c.persisted_by-after.ensures s (e ∙ sym c.clock_in-k.ensures)) _ _ _ _ _ c.release_by-released.result c.notify_committed-n.result c.release_by-released.ensures c.notify_committed-n.ensures c.done.ensures
