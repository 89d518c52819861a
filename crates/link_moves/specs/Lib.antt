-- What the contracts of moves within a part cite.
pub mod Moves
