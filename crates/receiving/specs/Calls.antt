-- What data answers. Assumes nothing.
use Rattle.std.specs.Prelude.{true}
use Rattle.rules.specs.declared.Answer.TheVariants.{Flag}
use Rattle.session.specs.declared.Returned.{Returned}
use Rattle.draining.specs.declared.Ended.{Ended}
use Rattle.draining.specs.Arrived.{told}

abbrev pub returned : Ended → Returned
returned e = record { session = e.session; answer = told (Flag true) e.stop; events = e.events }
