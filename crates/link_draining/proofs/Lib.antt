-- The laws of the end of a drain in place: `Outboxes` the outbox after a turn, `Sessions` which session the parts are after a change, `Turns` a session
-- after a turn, `Ends` how a call ends.
pub mod Outboxes
pub mod Sessions
pub mod Turns
pub mod Ends
