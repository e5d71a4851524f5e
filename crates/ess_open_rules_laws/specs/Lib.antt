-- Generators taken apart at the first that isn't plain
pub mod OpenGenerators
-- Sources of words over comprehensions
pub mod OpenSources
-- All these rules, alone and with those of kinds
pub mod OpenRules
