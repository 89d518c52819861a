-- The laws of data in any mode, in place.
pub mod Drives
