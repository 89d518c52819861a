-- The laws of `events`.
pub mod Laws
pub mod Emitted
