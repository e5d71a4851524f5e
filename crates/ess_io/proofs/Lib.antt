pub mod Growth
pub mod Written
mod Listed
mod Entries
mod Examples
