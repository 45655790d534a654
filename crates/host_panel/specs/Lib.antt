-- What the contracts of the crate `host_panel` cite.
pub mod WordCalls
