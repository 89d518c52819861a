-- What the contracts of `link_sending` cite.
pub mod Sends
