-- What the contracts of consumer ready in place cite.
pub mod Modes
