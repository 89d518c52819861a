-- Laws on the unacked messages of a lent session.
pub mod Sounds
pub mod Records
pub mod Appends
pub mod Marks
pub mod Frees
pub mod Sweeps
pub mod Fronts
pub mod Places
