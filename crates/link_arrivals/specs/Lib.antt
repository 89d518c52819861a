-- What the contracts of data that passed its checks cite.
pub mod Steps
