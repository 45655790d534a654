-- What the contracts of the crate `bounds` cite.
pub mod Bounds
pub mod Summed
pub mod Tallied
pub mod Calls
pub mod Examples
pub mod Blocks
