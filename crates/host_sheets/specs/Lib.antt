-- What the contracts of the crate `host_sheets` cite, beside the definitions of the crates below it.
pub mod SheetAnswers
