-- Laws of the crate `host_panel`: `Theorems` is what a reader may want to know of the definitions.
pub mod WordLaws
pub mod Theorems
