-- The sources of all definitions, by name and year, stand in docs/SOURCES.md.
-- Small words
pub mod Lists
-- Values and their order
pub mod Values
pub mod Order
pub mod Names
pub mod NameTokens
pub mod Collections
-- Trees and types
pub mod Trees
pub mod Types
pub mod OperatorTypes
pub mod Typing
-- Operators
pub mod Numbers
pub mod Operators
-- Domains and membership
pub mod Domains
pub mod Attributes
pub mod Membership
pub mod Atoms
pub mod Sizes
-- Tables and cells, and the representations of each kind of value
pub mod Tables
pub mod Cells
pub mod Kinds
pub mod Choice
pub mod TableNames
pub mod Layers
pub mod ScalarLayers
pub mod SetLayers
pub mod MultisetLayers
pub mod FunctionLayers
pub mod RelationLayers
pub mod PartitionLayers
pub mod Representations
pub mod Declarations
pub mod Canonical
pub mod CanonicalTest
pub mod Tidy
pub mod OneLayer
-- Meaning, with tables and without
pub mod Meaning
pub mod DeclaredTables
pub mod TypeMembers
pub mod Children
pub mod Occurrences
-- Contexts, structures, scope, and what rules keep
pub mod Contexts
pub mod NamesAt
pub mod StaysAt
pub mod Typed
pub mod Meets
pub mod Kept
pub mod Full
pub mod Totality
pub mod Refined
pub mod Simplified
pub mod Substitution
pub mod Scoped
pub mod FreeNames
pub mod LooksLeft
-- Numbers outside 64 bits, and positions
pub mod Large
pub mod Positions
-- Lettings and types put into trees
pub mod Lettings
pub mod Resolving
pub mod Prepared
-- Judgements
pub mod Scopes
pub mod DomainJudgements
pub mod ExpressionJudgements
pub mod Judgements
-- Parameters and solutions
pub mod Assignments
pub mod Literals
pub mod Parameters
pub mod Solutions
-- Models
pub mod Plans
pub mod ChosenOptions
pub mod ModelTrees
pub mod ModelMeaning
pub mod Satisfaction
pub mod LargeModels
pub mod LargeSpecifications
pub mod Constants
pub mod SizeNumbers
pub mod Models
pub mod Laws
