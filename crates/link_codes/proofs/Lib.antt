-- The laws of link_codes.
pub mod Enums
pub mod Bodies
