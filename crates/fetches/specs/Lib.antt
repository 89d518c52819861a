-- The definitions that the contracts of `fetches` cite.
pub mod Fetched
