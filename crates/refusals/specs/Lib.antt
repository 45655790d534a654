-- What the contracts of the crate `refusals` cite.
pub mod Tests
