-- The laws of consumer ready in place: `Modes` the session with another mode, `Drives` the call.
pub mod Modes
pub mod Drives
