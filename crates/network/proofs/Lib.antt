-- Laws that the proofs of the crate `network` share.
pub mod Events
pub mod LinkBytes
pub mod Words
pub mod RowSets
pub mod NodeLinks
pub mod Adjacent
pub mod FailingLaws
pub mod Works
