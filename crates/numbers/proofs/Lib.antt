-- `Laws` has the laws of `specs/Seats.antt`, for the proofs of this crate and of those above it; `Passes` those of its loops that drop numbers or list them.
pub mod Laws
pub mod Passes
