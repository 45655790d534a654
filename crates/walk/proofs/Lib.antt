-- Laws that the proofs of the crate `walk` share, and after them the computed examples.
pub mod Words
pub mod Parts
pub mod Dropped
pub mod Branches
pub mod Descents
pub mod Resume
pub mod Stepping
pub mod ScenarioLaws
pub mod EndsLaws
pub mod MemberLaws
pub mod OrderLaws
pub mod StackLaws
pub mod Laws
pub mod PendingMass
pub mod Valid
pub mod Theorems
pub mod Examples
