-- The definitions that the contracts of `replays` cite.
pub mod Connects
