-- Laws that the proofs of the crate `sheets` share.
pub mod CheckLaws
pub mod ReadLaws
