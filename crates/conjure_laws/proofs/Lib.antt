-- Lists, and items side by side
pub mod Lists
-- Names of tables, and tables by their names
pub mod NamedTables
pub mod FreeNames
-- Statements in their places
pub mod Statements
pub mod PlacedStatements
-- Tables that match the values of finds
pub mod NamedValues
pub mod Matching
pub mod MatchedTables
pub mod HeldTables
pub mod StoodTables
-- What the judgements and options say of plans
pub mod TableCounts
pub mod DefaultsFit
pub mod ChosenFit
pub mod ResolvedDomains
pub mod JudgedNames
pub mod JudgedDistinct
pub mod WrittenFields
pub mod PlainRelations
pub mod FittingPlans
-- The given tables
pub mod Givens
-- A model stands for its specification
pub mod Reduction
-- Views in the place of names, and the way from a constraint to its rule
pub mod PlainTrees
pub mod Lookups
pub mod Views
pub mod NumericTrees
pub mod Chains
-- Specifications of sets
pub mod Occurrence
pub mod SetScopes
pub mod SetNames
pub mod SetFacts
pub mod SetsSettled
pub mod SetCells
pub mod SetPlans
pub mod SetDeclarations
pub mod SetChannels
pub mod SetValues
pub mod SetRules
pub mod SetTexts
pub mod SmallSets
pub mod SetScopesTyped
pub mod WellTypedSets
pub mod SetModels
-- Worked examples
pub mod ExamplesSets
pub mod ExamplesWrong
