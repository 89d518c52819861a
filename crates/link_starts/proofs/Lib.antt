-- A start on the parts of a session is the driver's.
pub mod Filling
pub mod Messages
pub mod Starts
