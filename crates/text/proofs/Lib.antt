-- Laws of the crate `text`.
pub mod FieldLaws
pub mod RowLaws
pub mod TextLaws
pub mod MostLaws
pub mod Examples
pub mod DecimalLaws
pub mod Theorems
