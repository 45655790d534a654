-- What the contracts of the crate `thresholds_walk` cite.
pub mod Stack
pub mod Paths
