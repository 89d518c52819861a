-- `Turns` the loop of the drain in place; `Raw` a delivery in Raw mode, `RawTurns` the loop of these.
pub mod Turns
pub mod Raw
pub mod RawTurns
