-- Laws that the proofs of the crate `sheet_order` share.
pub mod OrderLaws
pub mod Theorems
pub mod InsertionLaws
