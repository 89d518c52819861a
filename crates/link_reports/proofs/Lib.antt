-- Reports and keepalives on the parts of a session are the driver's.
pub mod Reports
pub mod Keepalives
