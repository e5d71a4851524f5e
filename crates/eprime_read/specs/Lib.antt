pub mod Openings
pub mod Drafts
pub mod Statements
pub mod Views
pub mod Derived
