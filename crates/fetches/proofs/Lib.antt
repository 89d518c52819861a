-- The laws of fetches.
pub mod Finds
