-- The definitions that the contracts of `consumers` cite.
pub mod Modes
