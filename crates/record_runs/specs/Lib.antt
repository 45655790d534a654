-- What the contracts of the crate `record_runs` cite, beside the definitions of the crates below it.
pub mod Running
pub mod Copying
