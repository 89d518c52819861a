-- Laws of a command on the parts of a session.
pub mod Steps
pub mod Validates
pub mod Commands
