-- What a host may ask of a session besides: `dirty`, `accepted`, `retired`, `channel_terms` (session.rs), `rejection_complete` (peer_session.rs).
-- `dirty` stands in Clock, `rejection_complete` in Setup. Assumes nothing.
use Rattle.std.specs.Prelude.{Bool, true, false}
use Rattle.std.proofs.Math.Option.{Option, none, some}
use Rattle.rules.specs.declared.Terms.{Terms}
use Rattle.rules.specs.declared.Setup.{Setup}
use Rattle.rules.specs.declared.Setup.TheVariants.{None, Waiting, Started, Retired}
use Rattle.rules.specs.State.{State}

abbrev pub accepts_in : Setup → Bool
accepts_in None = false
accepts_in (Waiting t) = true
accepts_in Started = true
accepts_in Retired = false

-- waiting or started
abbrev pub accepted : State → Bool
accepted s = accepts_in s.stage.setup

abbrev pub retired_in : Setup → Bool
retired_in None = false
retired_in (Waiting t) = false
retired_in Started = false
retired_in Retired = true

abbrev pub is_retired : State → Bool
is_retired s = retired_in s.stage.setup

abbrev pub terms_in : Setup → Option Terms
terms_in None = none
terms_in (Waiting t) = some t
terms_in Started = none
terms_in Retired = none

-- of a session that waits, else none
abbrev pub channel_terms : State → Option Terms
channel_terms s = terms_in s.stage.setup
