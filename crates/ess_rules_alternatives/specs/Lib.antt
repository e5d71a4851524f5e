-- Alternatives one by one
pub mod Cases
