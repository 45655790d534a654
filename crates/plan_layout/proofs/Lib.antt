-- The laws of the layout, and the theorems on files and lent lists.
pub mod LayoutNumbers
pub mod LayoutSets
pub mod LayoutMembers
pub mod LayoutEvents
pub mod LayoutFile
pub mod LayoutPrefix
pub mod Theorems
pub mod ListLaws
pub mod Longest
