-- Families of domains
pub mod Families
