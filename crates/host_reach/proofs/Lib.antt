-- Laws that the proofs of the crate `host_reach` share.
pub mod ReachLaws
