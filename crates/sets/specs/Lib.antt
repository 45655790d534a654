-- What the contracts of the crate `sets` cite.
pub mod Sets
pub mod Elements
