-- The promises of the exported calls.
pub mod Promise
pub mod Entry
