-- `View` has the laws of `specs/View.antt` and `Sound` those of `specs/Sound.antt`, for the proofs of this crate and of those above it; `Changes` what
-- the functions leave that put a frame in or take a front out.
pub mod View
pub mod Sound
pub mod Changes
