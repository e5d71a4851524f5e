-- Chains of rules that keep, from a tree with values on
pub mod ValuedChains
