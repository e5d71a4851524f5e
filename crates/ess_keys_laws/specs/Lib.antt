-- What the form of a tree tells of keys
pub mod KeyForms
-- Long conjunctions
pub mod Chains
-- Trees with plain keys
pub mod Keyed
-- Their law
pub mod Laws
