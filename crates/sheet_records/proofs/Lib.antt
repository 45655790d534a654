-- Laws that the proofs of the crate `sheet_records` share.
pub mod SheetRecordsLaws
