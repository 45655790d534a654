-- The marked plans and their theorem.
pub mod Marked
