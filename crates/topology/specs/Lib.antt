-- What the contracts of the crate `topology` cite.
pub mod Paths
pub mod RowPaths
pub mod Rounds
