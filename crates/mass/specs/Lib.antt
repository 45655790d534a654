-- What the contracts of the crate `mass` cite.
pub mod Refusal
pub mod Split
