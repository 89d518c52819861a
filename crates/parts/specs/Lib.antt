-- What the contracts on the parts of a session cite, in the order to read: arrays as functions of an index, the codes of enums, the parts, a call driven.
pub mod Seats
pub mod Codes
pub mod Parts
pub mod Frames
pub mod Driven
pub mod Kinds
