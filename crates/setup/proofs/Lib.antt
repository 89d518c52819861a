-- The laws of setup, and of calls by the stores that they take.
pub mod Lending
pub mod Steps
pub mod Accepts
pub mod Retires
