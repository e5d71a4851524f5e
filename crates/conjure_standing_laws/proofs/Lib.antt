-- How many names are bound
pub mod Binders
-- Whether ranges have their bounds
pub mod FiredRanges
-- One rule at a part, and chains
pub mod BareChains
-- What a rule is used at
pub mod Rulings
-- Numbers of names
pub mod Counters
-- Names in scope
pub mod BoundNames
pub mod Covered
-- One rule at a part, and chains
pub mod SeenChains
pub mod SeenLaws
-- The rules of constraints over scalars, ranges and nested sets, and objectives
pub mod SetwiseRules
pub mod SetwiseObjectives
pub mod SetwiseComes
pub mod SetwiseLaws
-- Terms of numerals, which are written as they are
pub mod NumberTerms
pub mod NumberChains
pub mod NumberComes
-- Tables with such bounds
pub mod NumberTables
pub mod NestedTables
-- Domains of finds over tables
pub mod ShownNested
-- The tables in a model
pub mod FoundNested
-- The rules that are written
pub mod NestedRules
pub mod NestedLaws
-- Something comes of what is asked of the tables
pub mod NestedRanges
pub mod NestedComes
-- Worked examples
mod ExamplesNested
-- Rules lead from flat trees nowhere
pub mod FlatChains
-- Something comes of a flat tree
pub mod FlatComes
-- What stands in the place of names
pub mod BuiltShows
pub mod ShownDomains
-- What is built, part by part, and as a whole
pub mod BuiltParts
pub mod BuiltModels
-- Declarations stand, and nothing lacks of a specification of scalars
pub mod DeclaredScopes
pub mod StandingDeclarations
pub mod FlatDeclarations
pub mod FlatLacks
-- Chains of rules from memberships
pub mod MemberChains
-- Something comes of memberships and of bounds
pub mod MemberComes
-- What is built
pub mod BuiltSets
-- Models that are built with options that choose alike
pub mod BuiltAlike
-- What is shown over tables
pub mod ShownPlans
pub mod ShownStill
pub mod ShownPlaces
pub mod ShownNames
pub mod ShownNext
pub mod ShownSets
-- Plans of nested sets
pub mod NestedFacts
-- Trees and declarations
pub mod MixedTrees
-- What is built
pub mod MixedTables
pub mod NestedBuilt
-- Cells of scalars
pub mod ScalarsHeld
-- Tables that have a number at each slot
pub mod FilledTables
pub mod SetViews
pub mod UnboundSets
pub mod SetwiseBuilt
-- Declarations of the class stand, and each table is declared with its mark
pub mod NumberDeclarations
pub mod MixedDeclarations
pub mod MixedScopes
-- The objective, and the whole
pub mod GoalBuilt
pub mod BuiltMixed
-- The law
pub mod MixedLaws
-- What is written stands
pub mod FlatTexts
-- A model is written
pub mod FlatTextsCome
pub mod MixedRules
pub mod MixedPartsCome
-- Worked example
mod Examples
-- What is written for texts of sets stands
pub mod MemberTexts
-- Worked example
mod MemberExample
-- What is written for texts of scalars and sets stands
pub mod MixedTexts
-- Worked examples
mod MixedExample
mod NestedExample
mod SetwiseExample
