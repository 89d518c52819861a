-- What the contracts of `link_acks` cite.
pub mod Acks
