-- Laws of the order of pairs, and laws that the proofs of the crate `pairs` share.
pub mod PairLaws
pub mod Row
pub mod Rows
pub mod Cut
pub mod Raised
