pub mod LayerForms
pub mod ChildForms
mod Listed
mod SameParts
mod Examples
