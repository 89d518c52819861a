-- The definitions that the contracts of `link_draining` cite.
pub mod Steps
pub mod Endings
