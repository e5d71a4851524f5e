pub mod NodeForms
pub mod RootRows
pub mod Turned
