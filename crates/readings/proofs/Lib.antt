-- Laws that the proofs of the crate `readings` share.
pub mod Seek
pub mod WitnessPromise
pub mod Figures
pub mod FigureLaws
pub mod DowntimeLaws
pub mod FirstLaws
pub mod Theorems
