-- What the contracts of data in any mode cite.
pub mod Steps
