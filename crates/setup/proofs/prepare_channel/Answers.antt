use mathlib.Core.Path.{refl, sym, ap, ◌∙◌}
use Rattle.rules.specs.declared.Answer.TheVariants.{Done}
use Rattle.rules.specs.declared.Setup.TheVariants.{None, Waiting, Started, Retired}
use Rattle.peer_session.specs.declared.SessionState.{SessionState}
use Rattle.peer_session.specs.View.{state_of}
use Rattle.session.proofs.Lengths.{not_taken}
use Rattle.setup.proofs.Lending.{unsound, refused}
use Rattle.setup.proofs.Accepts.{preparing, prepare_is, waits}
use Rattle.setup.proofs.prepare_channel.Goals as goal

pub returns-then-not-sound : goal.returns-then-not-sound
returns-then-not-sound c = λ l d o q lo lq. unsound preparing c.args.s l d o q not_taken not_taken not_taken c.refused.ensures (sym c.sound.ensures.is ∙ c.if-not-sound.true)

pub returns-in-None : goal.returns-in-None
returns-in-None c = λ l d o q lo lq. waits preparing c.args.s l d o q not_taken (sym c.sound.ensures.is ∙ c.if-not-sound.false) c.sound.ensures.full lo lq c.args.s.stage.disposition (Waiting c.args.terms) (ap (λ (x : SessionState). record { session = x; answer = Done; events = 0 }) c.set_up-r.ensures) (prepare_is c.args.terms (state_of c.args.s o q) None c.in-None.is)

pub returns-in-Waiting : goal.returns-in-Waiting
returns-in-Waiting c = λ l d o q lo lq. waits preparing c.args.s l d o q not_taken (sym c.sound.ensures.is ∙ c.if-not-sound.false) c.sound.ensures.full lo lq c.args.s.stage.disposition c.args.s.stage.setup refl (prepare_is c.args.terms (state_of c.args.s o q) (Waiting _) c.in-Waiting.is)

pub returns-in-Started : goal.returns-in-Started
returns-in-Started c = λ l d o q lo lq. refused preparing c.args.s l d o q not_taken not_taken not_taken (sym c.sound.ensures.is ∙ c.if-not-sound.false) c.sound.ensures.full lo lq c.refused-in-Started.ensures (prepare_is c.args.terms (state_of c.args.s o q) Started c.in-Started.is)

pub returns-in-Retired : goal.returns-in-Retired
returns-in-Retired c = λ l d o q lo lq. refused preparing c.args.s l d o q not_taken not_taken not_taken (sym c.sound.ensures.is ∙ c.if-not-sound.false) c.sound.ensures.full lo lq c.refused-in-Retired.ensures (prepare_is c.args.terms (state_of c.args.s o q) Retired c.in-Retired.is)
