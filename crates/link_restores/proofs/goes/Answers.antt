use mathlib.Core.Path.{sym, ◌∙◌}
use Rattle.link_restores.proofs.Restores.{taking_in, handed-small, other-handoff, goes_in}
use Rattle.restores.specs.Restored.{given_if}
use Rattle.link_restores.proofs.goes.Goals as goal

pub take-requires : goal.take-requires
take-requires c = taking_in c.args.«record».reliable c.args.«record».numbers.now c.args.«record».lengths.now c.args.«record».bodies.now (given_if c.args.given) c.args.words.now c.args.halves.now c.args.bytes.now c.args.clock.now c.args.outbound.now c.requires

pub agrees-requires : goal.agrees-requires
agrees-requires c = handed-small c.args.«record».reliable c.args.«record».numbers.now c.args.«record».lengths.now c.args.«record».bodies.now (given_if c.args.given) c.args.words.now c.args.halves.now c.args.bytes.now c.args.clock.now c.args.outbound.now c.requires c.take.ensures

pub returns-then-not-agrees : goal.returns-then-not-agrees
returns-then-not-agrees c = other-handoff c.args.«record».reliable c.args.«record».numbers.now c.args.«record».lengths.now c.args.«record».bodies.now (given_if c.args.given) c.args.words.now c.args.halves.now c.args.bytes.now c.args.clock.now c.args.outbound.now c.requires c.take.ensures (sym c.agrees.ensures ∙ c.if-not-agrees.true) c.refusal.ensures

pub returns : goal.returns
returns c = goes_in c.args.«record».reliable c.args.«record».numbers.now c.args.«record».lengths.now c.args.«record».bodies.now (given_if c.args.given) c.args.words.now c.args.halves.now c.args.bytes.now c.args.clock.now c.args.outbound.now c.requires c.take.ensures (sym c.agrees.ensures ∙ c.if-not-agrees.false) c.hand.ensures c.done.ensures
