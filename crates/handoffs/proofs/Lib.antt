-- The laws of the terminal handoff.
pub mod Unacked
pub mod Steps
pub mod Validates
pub mod Commands
