-- The laws of draining: `Settled` has what a turn leaves of a session; `Failing` a refusal that empties the queue; `Carried` the drain; `Calls` a call that
-- takes all four buffers.
pub mod Settled
pub mod Failing
pub mod Carried
pub mod Calls
