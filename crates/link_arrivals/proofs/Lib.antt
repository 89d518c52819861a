-- The laws of data that passed its checks, in place, from those of the driver's call.
pub mod Steps
