-- What the contracts of the crate `walk_state` cite.
pub mod Sound
pub mod States
