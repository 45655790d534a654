-- What the contracts of the crate `thresholds` cite.
pub mod Thresholds
pub mod Steps
pub mod Examples
