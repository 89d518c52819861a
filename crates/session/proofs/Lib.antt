-- The laws of the promises.
pub mod Promises
pub mod Lengths
pub mod Entry
pub mod Entries
pub mod Queries
pub mod WithList
pub mod Clocks
pub mod Lasting
pub mod Refusals
