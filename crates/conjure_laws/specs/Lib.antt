-- Lists: their items, and lists side by side
pub mod Members
pub mod SideBySide
-- What the layers deliver
pub mod Premises
pub mod ModelPremises
pub mod Fields
-- Views in the place of names
pub mod PlainTrees
pub mod Views
pub mod Numeric
-- Specifications of sets, and their models
pub mod SetsOfAtoms
pub mod ModelsOfSets
-- What is proved
pub mod Laws
