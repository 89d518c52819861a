-- What the contracts of `link_replays` cite.
pub mod Connects
