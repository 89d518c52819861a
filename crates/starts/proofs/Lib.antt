-- The laws of a record's slices, of its messages and checks, and of a start.
pub mod Slices
pub mod Messages
pub mod Checks
pub mod Begins
pub mod Lasting
