-- What the contracts of the crate `panel` cite.
pub mod Walks
pub mod Calls
pub mod Steps
pub mod Sessions
