-- What the contracts of a restore in place cite.
pub mod Handed
pub mod Restores
