-- What the contracts of the crate `thresholds_sums` cite.
pub mod Walked
