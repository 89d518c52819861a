-- The definitions that the contracts of `handoffs` cite.
pub mod Commands
