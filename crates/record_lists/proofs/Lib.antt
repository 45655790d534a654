-- Laws that the proofs of the crate `record_lists` share.
pub mod EventLaws
pub mod PlanLaws
