-- What the contracts of `link_setup` cite.
pub mod Steps
