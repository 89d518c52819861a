-- The laws of commits.
pub mod Releases
pub mod Completes
