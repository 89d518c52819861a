-- What the contracts of the queue in place cite: `Steps` what is asked of it and what becomes of it, `Joins` a frame at its end, `Frames` what is left alone.
pub mod Frames
pub mod Steps
pub mod Joins
