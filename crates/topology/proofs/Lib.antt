-- Laws that the proofs of the crate `topology` share.
pub mod Gather
pub mod RoundLaws
pub mod RoundPaths
pub mod RoundSame
pub mod RoundTheorems
pub mod Round
pub mod Shares
pub mod RowLinks
pub mod Chains
pub mod Connection
pub mod Laws
pub mod Theorems
pub mod Examples
