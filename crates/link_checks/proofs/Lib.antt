-- The laws of the checks: the verdict on data.
pub mod Checks
