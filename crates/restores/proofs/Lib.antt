-- The laws of a restore.
pub mod Records
pub mod Handoffs
pub mod Restores
pub mod Lent
pub mod Lasting
pub mod Refusals
