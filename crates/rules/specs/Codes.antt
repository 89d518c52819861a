-- What a call reads a number as. Assumes nothing.
use Rattle.std.specs.Prelude.{ℕ, ◌≡◌, ◌≤◌, ◌<◌, ◌⊎◌, Result, Ok, Err}
use Rattle.rules.specs.declared.Refusal.{Refusal}
use Rattle.rules.specs.declared.Refusal.TheVariants.{UnknownCode}
use Rattle.rules.specs.declared.ReceiveMode.{ReceiveMode}
use Rattle.rules.specs.declared.FrameKind.{FrameKind}
use Rattle.rules.specs.declared.FrameKind.TheVariants as Kinds
use Rattle.rules.specs.declared.Connectivity.{Connectivity}
use Rattle.rules.specs.declared.Connectivity.TheVariants as Line
use Rattle.rules.specs.Receiving.{mode_of}

abbrev pub frame_kind_number : FrameKind → ℕ
frame_kind_number Kinds.Data = 0
frame_kind_number Kinds.Ack = 1

abbrev pub connectivity_number : Connectivity → ℕ
connectivity_number Line.Disconnected = 1
connectivity_number Line.Reconnected = 2
connectivity_number Line.PeerUnavailable = 3
connectivity_number Line.Registered = 4
connectivity_number Line.PeerAvailable = 5

-- ---- a number that a call takes as a code: one that is in no list is refused

abbrev pub ReadsFrameKind : ℕ → Result FrameKind Refusal → Type 0
ReadsFrameKind n (Ok what) = n ≡ frame_kind_number what
ReadsFrameKind n (Err r) = (r ≡ UnknownCode) × (1 < n)

abbrev pub ReadsConnectivity : ℕ → Result Connectivity Refusal → Type 0
ReadsConnectivity n (Ok event) = n ≡ connectivity_number event
ReadsConnectivity n (Err r) = (r ≡ UnknownCode) × ((n ≡ 0) ⊎ (5 < n))

abbrev pub ReadsMode : ℕ → Result ReceiveMode Refusal → Type 0
ReadsMode n (Ok mode) = (n ≤ 4) × (mode ≡ mode_of n)
ReadsMode n (Err r) = (r ≡ UnknownCode) × (4 < n)
