-- What the contracts of the checks of data cite.
pub mod Checks
