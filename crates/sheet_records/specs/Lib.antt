-- What the contracts of the crate `sheet_records` cite, beside the definitions of the crates `sheets` and `record_reading`.
pub mod SheetRecords
