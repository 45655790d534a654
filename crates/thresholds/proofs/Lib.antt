-- Laws that the proofs of the crate `thresholds` share.
pub mod TestLaws
pub mod BlockLaws
pub mod RaiseLaws
pub mod WalkLaws
pub mod Filled
pub mod Outcome
pub mod Theorems
pub mod Examples
