-- What the contracts of the drain in place cite: `Drains` the drain, and what its steps do.
pub mod Drains
