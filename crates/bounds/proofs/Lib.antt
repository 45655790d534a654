-- Laws that the proofs of the crate `bounds` share.
pub mod Examining
pub mod Turn
pub mod Root
pub mod Zeros
pub mod Answers
pub mod Outcome
pub mod PairOutcome
pub mod Theorems
