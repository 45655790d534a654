-- Laws that the proofs of the crate `walk_state` share.
pub mod EntryLaws
pub mod SoundLaws
pub mod StateLaws
