-- Laws that the proofs of the crate `topology_list` share.
pub mod SameLaws
pub mod EntryLaws
pub mod PlaceLaws
pub mod WorkingSets
pub mod Turn
pub mod Answers
pub mod Theorems
pub mod ListLaws
pub mod RoomLaws
pub mod ListBounds
pub mod Examples
