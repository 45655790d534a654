-- Laws that the proofs of the crate `host_answers` share.
pub mod LaidLaws
pub mod GivenLaws
