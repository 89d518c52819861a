-- The definitions that the contracts of `setup` and of the crates above it cite.
pub mod Steps
