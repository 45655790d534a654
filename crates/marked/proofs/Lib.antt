-- Laws that the proofs of the crate `marked` share.
pub mod Theorems
