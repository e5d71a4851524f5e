-- Domains of nested sets
pub mod NestedDomains
