-- What the contracts of the crate `trials_panel_vectors` cite.
pub mod Table
