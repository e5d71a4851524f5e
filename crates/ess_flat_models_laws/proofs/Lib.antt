-- Statements of the class, prepared
pub mod PreparedStatements
pub mod SimpleTrees
pub mod PreparedNumbers
-- Domains of scalars
pub mod Reckoned
pub mod ScalarDomains
pub mod SmallDomains
-- Plans
pub mod FlatPlans
-- What the layers deliver but for rules
pub mod FlatLayers
-- Values of flat trees
pub mod FlatValues
pub mod FlatSimplified
pub mod FlatCells
pub mod FlatKinds
-- Names and cells
pub mod FlatNames
pub mod FlatDeclared
-- Rules
-- Values of givens, and domains over cells
pub mod GivenValues
pub mod GivenPlaces
pub mod FlatBounds
pub mod FlatRules
pub mod FlatGoals
-- Texts
pub mod FlatTexts
-- The law
pub mod FlatHave
-- Worked examples
mod Examples
