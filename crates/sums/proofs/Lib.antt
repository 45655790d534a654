-- Laws that the proofs of the crate `sums` share, and after them the computed examples.
pub mod ExactLaws
pub mod Laws
pub mod Enclosure
pub mod Theorems
pub mod BoundsLaws
pub mod Examples
