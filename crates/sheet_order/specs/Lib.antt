-- What the contracts of the crate `sheet_order` cite, beside the definitions of the crates below it.
pub mod Order
pub mod Falling
pub mod Inserted
