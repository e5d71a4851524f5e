pub mod Roles
pub mod Rows
pub mod Patterns
pub mod Views
pub mod Stack
pub mod Reduced
pub mod Statements
pub mod Steps
