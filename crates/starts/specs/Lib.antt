-- The promise of a start, and the contracts of its parts.
pub mod Started
pub mod Records
