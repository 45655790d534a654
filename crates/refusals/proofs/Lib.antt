-- Laws that proofs about refusals share.
pub mod ReachLaws
pub mod TestLaws
