-- What the contracts of the crate `readings` cite.
pub mod Downtime
pub mod Witness
pub mod First
pub mod Figure
pub mod Examples
pub mod Search
