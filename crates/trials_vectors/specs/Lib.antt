-- What the contracts of the crate `trials_vectors` cite.
pub mod Data
