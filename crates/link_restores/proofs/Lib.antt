-- A restore on the parts of a session is the driver's.
pub mod Handoffs
pub mod Restores
