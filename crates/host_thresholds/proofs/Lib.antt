-- Laws that the proofs of the crate `host_thresholds` share.
pub mod PlaceLaws
