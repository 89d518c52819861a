-- The definitions that the contracts of `link_numbers` cite.
pub mod Sets
