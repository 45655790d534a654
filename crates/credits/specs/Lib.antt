-- What the contracts of the crate `credits` cite.
pub mod Credit
pub mod Examples
