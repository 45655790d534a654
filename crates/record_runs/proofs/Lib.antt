-- Laws that the proofs of the crate `record_runs` share.
pub mod RunLaws
pub mod FileLaws
pub mod CopyLaws
