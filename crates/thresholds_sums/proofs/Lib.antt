-- Laws that the proofs of the crate `thresholds_sums` share.
pub mod Examined
pub mod Steps
pub mod Blocks
pub mod Counts
pub mod Turns
