-- What the contracts of the crate `windows` cite.
pub mod Windows
pub mod Examples
pub mod Code
