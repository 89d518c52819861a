-- The definitions that the contracts of `delivery` and of the crates above it cite: `Turns` what they are, `Acts` what a delivery is made of.
pub mod Turns
pub mod Acts
