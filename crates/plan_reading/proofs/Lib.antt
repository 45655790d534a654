-- Laws that the proofs of the crate `plan_reading` share.
pub mod ReaderLaws
pub mod ReaderLawsAnswer
pub mod LoadedLaws
