-- The definitions that the contracts of `events` and of the crates above it cite.
pub mod Written
pub mod Emitted
