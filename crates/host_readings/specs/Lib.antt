-- What the contracts of the crate `host_readings` cite, beside the definitions of the crates below it.
pub mod FurtherAnswers
pub mod CreditAnswers
