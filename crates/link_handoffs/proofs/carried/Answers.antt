use Rattle.link_handoffs.proofs.Validates.{carried_here, carried-none}
use Rattle.link_outbox.proofs.Sounds.{bounded_sound}
use Rattle.outbox.proofs.Places.{part-fits}
use Rattle.parts.specs.Parts.{at, outbox_in}
use Rattle.link_handoffs.proofs.carried.Goals as goal

pub locate-requires : goal.locate-requires
locate-requires c = bounded_sound c.args.words.now c.args.halves.now c.args.bytes.now c.requires.sound

pub part-requires : goal.part-requires
part-requires c = part-fits (at c.args.words.now 9) (outbox_in c.args.words.now c.args.halves.now c.args.bytes.now) c.args.outbound.now (c.locate.ensures c.args.bytes.now) c.requires.exact c.in-Some.place c.in-Some.is

pub returns-in-Some : goal.returns-in-Some
returns-in-Some c = carried_here c.args.words.now c.args.halves.now c.args.bytes.now c.args.outbound.now c.requires c.locate.ensures c.handoff_body-held.ensures c.in-Some.place c.in-Some.is c.part.ensures c.same_bytes.ensures

pub returns-in-None : goal.returns-in-None
returns-in-None c = carried-none c.args.words.now c.args.halves.now c.args.bytes.now c.args.outbound.now c.requires c.locate.ensures c.handoff_body-held.ensures c.in-None.is
