use mathlib.Core.Path.{ap, ◌∙◌}
use Rattle.rules.specs.Lists.{rising, itself}
use Rattle.link_numbers.proofs.Asked.{run_from}
use Rattle.link_numbers.proofs.rises.Goals as goal

pub returns : goal.returns
returns c =
    let a = c.args in
    c.run_rises.ensures ∙ ap (rising itself a.last) (run_from a.from a.count a.words.now c.requires.0.few a.first)
