-- Commits on the parts of a session are the driver's.
pub mod Releases
pub mod Completes
