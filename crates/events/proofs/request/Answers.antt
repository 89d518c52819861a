use mathlib.Core.Path.{refl}
use Rattle.rules.specs.Events.{commit_requested, listed}
use Rattle.rules.specs.Buffers.{flat}
use Rattle.events.proofs.Emitted.{emitted_listed}
use Rattle.events.proofs.request.Goals as goal

pub returns : goal.returns
unfolding flat listed
returns c = λ us. emitted_listed us commit_requested _ c.emit_if.ensures (λ at. refl)
