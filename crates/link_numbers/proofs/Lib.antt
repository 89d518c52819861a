-- Laws on sets of numbers in the words of a session, in the order to read: where they lie, what is asked of them, how they change in place.
pub mod Sets
pub mod Asked
pub mod Changes
