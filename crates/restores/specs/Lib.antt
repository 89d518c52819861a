-- The promise of a restore, and the contracts of its parts.
pub mod Restored
pub mod Steps
