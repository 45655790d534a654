-- Laws that the proofs of the crate `plan` share.
pub mod FileLaws
pub mod FileLawsSteps
pub mod FileLawsAccepted
pub mod HeldLaws
pub mod FilledLaws
