-- What the contracts of the crate `walk` cite.
pub mod Scenario
pub mod Ends
pub mod Member
pub mod Pending
pub mod WorksPath
pub mod Walk
pub mod WalkOrder
pub mod Stack
pub mod Steps
