-- Laws that the proofs of the crate `panel` share, and after them the computed examples.
pub mod GoingOn
pub mod Wanted
pub mod Beginning
pub mod Shown
pub mod Theorems
pub mod Examples
