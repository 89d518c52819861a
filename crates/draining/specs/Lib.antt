-- The definitions that the contracts of `draining` cite.
pub mod Turns
pub mod Ends
pub mod Arrived
