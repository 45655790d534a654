-- Laws that the proofs of the crate `host_readings` share.
pub mod Words
