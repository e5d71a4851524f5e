-- Chains of rules of views of sets
pub mod SetChains
