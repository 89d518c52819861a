-- What the contracts of `link_commits` cite.
pub mod Completes
