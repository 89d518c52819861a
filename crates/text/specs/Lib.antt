-- The definitions that the contracts of `text` and of the programs above it cite.
pub mod Fields
pub mod Filled
pub mod Hex
pub mod Numbers
pub mod Output
pub mod Taken
