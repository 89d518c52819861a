-- The setup calls on the parts of a session are the driver's.
pub mod Stages
pub mod Channels
pub mod Joins
pub mod Accepts
pub mod Rejects
