-- The laws of receiving: `Checks` has the checks of data; `Again` a duplicate; `Choice` whether other data is delivered now; `Now` data that is, `Later` data
-- that waits; `Data` the call.
pub mod Checks
pub mod Again
pub mod Choice
pub mod Next
pub mod Now
pub mod Later
pub mod Data
