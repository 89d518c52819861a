-- `Laws` has the laws of numbers put into a buffer.
pub mod Laws
