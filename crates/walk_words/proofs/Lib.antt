-- Laws of the crate `walk_words`: `Theorems` is what a reader may want to know of the definitions.
pub mod PartLaws
pub mod Theorems
