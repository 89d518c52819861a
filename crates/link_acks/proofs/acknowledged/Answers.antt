use Rattle.link_acks.proofs.Acks.{messages-exact, low-kept, went}
use Rattle.acks.proofs.Steps.{asked-few}
use native.Mathlib.Omega.{arith}
use mathlib.Core.Path.{ap, ◌∙◌}
use Rattle.parts.specs.Parts.{flag}
use Rattle.link_codes.proofs.Enums.{flag_read}
use Rattle.link_acks.proofs.acknowledged.Goals as goal

pub acknowledge-requires : goal.acknowledge-requires
acknowledge-requires c = messages-exact c.args.words.now c.args.halves.now c.args.bytes.now c.args.clock.now c.args.list.now c.args.outbound.now c.args.number c.requires.0

pub acknowledged_clock-after-requires : goal.acknowledged_clock-after-requires
acknowledged_clock-after-requires c = low-kept c.args.words.now c.args.halves.now c.args.bytes.now c.args.clock.now c.args.list.now c.args.outbound.now c.args.number c.requires.0 c.acknowledge.ensures c.clock_in-k.ensures

pub notify_acknowledged-m-requires : goal.notify_acknowledged-m-requires
notify_acknowledged-m-requires c = omega (arith, c.requires.0.list, asked-few c.acknowledged_clock-after.result c.request-n.ensures)

pub returns : goal.returns
returns c = λ q lq. went c.args.words.now c.args.halves.now c.args.bytes.now c.args.clock.now c.args.list.now c.args.outbound.now c.args.number c.requires.0 c.acknowledge.ensures c.flag_byte.result (ap flag c.flag_byte.ensures ∙ flag_read _ ∙ c.handoff_acknowledged-told.ensures) (omega arith) c.requires.1 c.clock_in-k.ensures c.acknowledged_clock-after.ensures c.request-n.ensures c.complete.ensures c.notify_acknowledged-m.ensures c.flag.ensures q lq
