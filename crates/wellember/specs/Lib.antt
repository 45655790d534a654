-- What the contracts of the crate `wellember` cite.
pub mod Host
