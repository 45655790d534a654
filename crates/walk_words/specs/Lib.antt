-- What the contracts of the crate `walk_words` cite.
pub mod WalkWords
