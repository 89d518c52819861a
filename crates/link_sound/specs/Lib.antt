-- The definitions that the contracts of `link_sound` cite.
pub mod Sizes
