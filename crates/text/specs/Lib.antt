-- What the contracts of the crate `text` cite.
pub mod Decimal
pub mod Listing
pub mod Sums
