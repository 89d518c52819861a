-- `Numbers`, `Fields` and `Output` have the laws of the definitions of the same names; `Pairs` those of `specs/Hex.antt`, and
-- `After` those of `specs/Taken.antt` and `specs/Filled.antt`.
pub mod After
pub mod Fields
pub mod Numbers
pub mod Output
pub mod Pairs
