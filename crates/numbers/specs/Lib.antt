-- The definitions that the contracts of `numbers` and of the crates above it cite.
pub mod Seats
