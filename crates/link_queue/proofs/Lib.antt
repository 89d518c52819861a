-- The laws of the queue in place: `Sums` where bodies end; `Finds` a number looked for; `Tops` one above all; `Records` what the records are; `Joins` a
-- frame at the end; `Inserts` one in its place; `Drops` a front that goes.
pub mod Sums
pub mod Finds
pub mod Tops
pub mod Records
pub mod Joins
pub mod Inserts
pub mod Drops
