use mathlib.Core.Path.{ap, ◌∙◌}
use Rattle.rules.specs.Lists.{Bytes, same}
use Rattle.outbox.proofs.Places.{part-fits}
use Rattle.handoffs.proofs.Unacked.{carries_here, carries-none}
use Rattle.handoffs.proofs.carried.Goals as goal

pub part-requires : goal.part-requires
part-requires c = part-fits c.args.number c.args.o c.args.outbound.now c.locate.ensures c.requires.1 c.in-Some.place c.in-Some.is

pub returns-in-Some : goal.returns-in-Some
returns-in-Some c = c.same_bytes.ensures ∙ ap (λ (z : Bytes). same z c.args.body.now) c.part.ensures ∙ carries_here c.args.number c.args.o c.args.outbound.now c.requires.0 c.locate.ensures c.args.body.now c.in-Some.place c.in-Some.is

pub returns-in-None : goal.returns-in-None
returns-in-None c = carries-none c.args.number c.args.o c.args.outbound.now c.requires.0 c.locate.ensures c.args.body.now c.in-None.is
