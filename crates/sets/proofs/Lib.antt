-- Laws that the proofs of the crate `sets` share.
pub mod Digits
pub mod Laws
pub mod LowestLaws
pub mod Bools
pub mod WhereLaws
pub mod SearchLaws
pub mod Taken
