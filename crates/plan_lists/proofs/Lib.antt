-- Laws of lent lists that proofs share.
pub mod ListLaws
pub mod CopyLaws
pub mod Accepted
