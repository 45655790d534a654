-- Laws that the proofs of the crate `credits` share.
pub mod Minutes
pub mod Headroom
pub mod Theorems
pub mod CreditPromise
