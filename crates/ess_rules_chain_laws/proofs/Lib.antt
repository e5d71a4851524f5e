pub mod RulesAtNodes
pub mod MarkedChains
