-- The laws of a send.
pub mod Sends
