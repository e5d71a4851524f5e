-- Chains of more rules that keep, from a tree with values on
pub mod MoreChains
