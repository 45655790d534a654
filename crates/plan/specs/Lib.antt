-- What the contracts of the crate `plan` cite.
pub mod Plan
pub mod Lists
pub mod Layout
pub mod File
pub mod LentLists
pub mod Calls
pub mod Held
