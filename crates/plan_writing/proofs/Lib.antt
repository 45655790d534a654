-- Laws that the proofs of the crate `plan_writing` share.
pub mod ElementLaws
pub mod SizeLaws
pub mod WriterLaws
pub mod WriterAnswer
