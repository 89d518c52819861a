-- The definitions that the contracts of `receiving` cite.
pub mod Checks
pub mod Calls
