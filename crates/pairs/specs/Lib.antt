-- What the contracts of the crate `pairs` cite.
pub mod Pairs
pub mod Adding
pub mod BoundsFit
