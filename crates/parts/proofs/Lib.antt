-- Laws on the parts of a session.
pub mod Seats
pub mod Fields
pub mod Opened
pub mod Drives
pub mod After
pub mod Flags
