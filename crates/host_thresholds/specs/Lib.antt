-- What the contracts of the crate `host_thresholds` cite, beside the definitions of the crates below it.
pub mod ThresholdAnswers
