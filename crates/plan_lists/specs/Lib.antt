-- What the contracts of the crate `plan_lists` cite.
pub mod Taken
