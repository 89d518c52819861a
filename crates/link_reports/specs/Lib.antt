-- What the contracts of reports in place cite.
pub mod Reports
