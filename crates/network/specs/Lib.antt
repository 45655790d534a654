-- What the contracts of the crate `network` cite.
pub mod Outage
pub mod Topology
pub mod Code
pub mod Table
pub mod Examples
