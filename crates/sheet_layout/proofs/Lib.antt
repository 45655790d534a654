-- The laws of the sheet's layout, and the theorems on sheets and plans.
pub mod SheetLines
pub mod SheetBytes
pub mod Theorems
pub mod Examples
