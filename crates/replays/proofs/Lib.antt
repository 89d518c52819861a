-- The laws of `connectivity`.
pub mod Connects
