-- What the contracts of the crate `host_answers` cite, beside the definitions of the crates below it.
pub mod Answers
pub mod Laid
