use native.Mathlib.Omega.{arith}
use mathlib.Core.Path.{sym, ◌∙◌}
use Rattle.link_setup.proofs.Stages.{found-sound}
use Rattle.link_setup.proofs.Channels.{prepare_unsound, by_none, by_waiting, by_started, by_retired}
use Rattle.link_setup.proofs.prepare_channel.Goals as goal

pub returns-then-not-sound : goal.returns-then-not-sound
returns-then-not-sound c = prepare_unsound c.args.terms _ (sym (c.sound.ensures c.args.clock.now).is ∙ c.if-not-sound.true) c.refusal.ensures

pub returns-in-None : goal.returns-in-None
returns-in-None c = by_none c.args.terms c.args.words.now c.args.halves.now c.args.bytes.now c.args.clock.now (found-sound (c.sound.ensures c.args.clock.now) (c.if-not-sound.false)) (omega arith) (sym c.setup_in.ensures ∙ c.in-None.is) c.stage.ensures c.done.ensures

pub returns-in-Waiting : goal.returns-in-Waiting
returns-in-Waiting c = by_waiting c.args.terms c.args.words.now c.args.halves.now c.args.bytes.now c.args.clock.now (found-sound (c.sound.ensures c.args.clock.now) (c.if-not-sound.false)) (sym c.setup_in.ensures ∙ c.in-Waiting.is) c.done-in-Waiting.ensures

pub returns-in-Started : goal.returns-in-Started
returns-in-Started c = by_started c.args.terms c.args.words.now c.args.halves.now c.args.bytes.now c.args.clock.now (found-sound (c.sound.ensures c.args.clock.now) (c.if-not-sound.false)) (sym c.setup_in.ensures ∙ c.in-Started.is) c.refusal-in-Started.ensures

pub returns-in-Retired : goal.returns-in-Retired
returns-in-Retired c = by_retired c.args.terms c.args.words.now c.args.halves.now c.args.bytes.now c.args.clock.now (found-sound (c.sound.ensures c.args.clock.now) (c.if-not-sound.false)) (sym c.setup_in.ensures ∙ c.in-Retired.is) c.refusal-in-Retired.ensures
