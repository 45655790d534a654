-- Laws of windows, and the theorems about what is out at a minute.
pub mod WindowLaws
pub mod Theorems
pub mod Examples
