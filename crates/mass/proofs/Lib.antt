-- Laws that the proofs of the crate `mass` share.
pub mod RefusalLaws
pub mod Theorems
