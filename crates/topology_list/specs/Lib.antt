-- What the contracts of the crate `topology_list` cite.
pub mod Entries
pub mod Words
pub mod TopologyList
pub mod MassesFit
pub mod Calls
pub mod Examples
pub mod ListBounds
pub mod Different
