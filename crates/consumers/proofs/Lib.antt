-- The laws of consumers.
pub mod Consumers
