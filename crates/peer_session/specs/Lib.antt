-- The definitions that the contracts of `peer_session` and of the crates above it cite.
pub mod View
pub mod Sound
pub mod New
pub mod Allocates
pub mod Breaks
