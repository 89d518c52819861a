-- Laws on the check of a session in place: its tests, and what a caller has of a session that is found sound, and how long its words and bytes are.
pub mod Sounds
pub mod Parts
pub mod Lengths
