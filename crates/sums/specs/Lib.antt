-- What the contracts of the crates above `sums` cite.
pub mod Exact
pub mod Bounds
