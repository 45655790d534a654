-- Laws that the proofs of the crate `record_reading` share.
pub mod ReadLaws
pub mod StepLaws
pub mod WholeLists
