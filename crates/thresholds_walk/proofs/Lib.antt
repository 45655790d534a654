-- Laws that the proofs of the crate `thresholds_walk` share.
pub mod Words
pub mod Stops
pub mod Counting
pub mod Descents
pub mod Resume
