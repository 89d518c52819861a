-- The definitions that the contracts of `queue` and of the crates above it cite.
pub mod View
pub mod Sound
pub mod Steps
