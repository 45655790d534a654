-- Laws of the crate `trials_vectors`.
pub mod DataLaws
