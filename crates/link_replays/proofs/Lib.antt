-- Connectivity on the parts of a session is the driver's.
pub mod Connects
