-- The questions on the parts of a session are the driver's.
pub mod Asks
