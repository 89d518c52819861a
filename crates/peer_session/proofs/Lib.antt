-- The laws of the view, and of a new session.
pub mod Held
pub mod View
pub mod Sends
pub mod Fresh
pub mod Breaks
pub mod Lasting
