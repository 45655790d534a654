-- What the contracts of the crate `sheets`, and the theorems on sheets, cite beside the definitions of the crate `plan`.
pub mod Sheet
pub mod SheetLayout
pub mod SheetFile
pub mod SheetCalls
pub mod Valid
