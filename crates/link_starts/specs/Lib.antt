-- What the contracts of `link_starts` cite.
pub mod Filled
pub mod Steps
pub mod Starts
