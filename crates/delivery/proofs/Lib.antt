-- `Written` what a delivery writes; `Changes` what a proposal and a reject change in a turn; `Steps` what a mode does with a message, and a delivery;
-- `Tests` what is asked of a turn; `Queues` the next frame of a queue that rises; `Drains` the loop of the drain.
pub mod Written
pub mod Changes
pub mod Steps
pub mod Tests
pub mod Queues
pub mod Drains
