-- What the contracts of a retire in place cite.
pub mod Steps
