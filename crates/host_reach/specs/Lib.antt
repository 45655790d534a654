-- What the contracts of the crate `host_reach` cite.
pub mod NodeReach
