-- What the contracts of the crate `plan_reading` cite, beside the definitions of the crate `plan`.
pub mod Members
pub mod Loaded
