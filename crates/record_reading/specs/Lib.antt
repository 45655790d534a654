-- What the contracts of the crate `record_reading` cite, beside the definitions of the crates `plan` and `record_lists`.
pub mod Filled
pub mod Steps
