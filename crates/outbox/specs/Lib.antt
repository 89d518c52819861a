-- The definitions that the contracts of `outbox` and of the crates above it cite.
pub mod View
pub mod Sound
pub mod Records
pub mod Steps
pub mod Sweeps
