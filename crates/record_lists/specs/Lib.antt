-- What the contracts of the crate `record_lists` cite, beside the definitions of the crate `plan`.
pub mod Events
