-- `Sounds` has the laws of a chain of tests and of admitted records; `View` what an outbox and a store hold, and when both are sound; `Appends`,
-- `Sweeps`, `Flags`, `Listings`, `Commits` and `Places` the laws of the functions.
pub mod Sounds
pub mod View
pub mod Appends
pub mod Sweeps
pub mod Flags
pub mod Listings
pub mod Commits
pub mod Places
