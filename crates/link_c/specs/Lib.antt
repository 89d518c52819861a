-- What the contracts of the calls for C cite.
pub mod Forms
