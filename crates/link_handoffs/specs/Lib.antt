-- What the contracts of `link_handoffs` cite.
pub mod Commands
