-- Expressions
mod ExamplesMeaning
mod ExamplesExpressions
mod ExamplesOperators
-- Members, judgements, verdicts and solutions
mod ExamplesMembership
mod ExamplesJudgements
mod ExamplesFaults
mod ExamplesVerdicts
mod ExamplesSolutions
-- Cells and names of tables
mod ExamplesCells
mod ExamplesLayers
mod ExamplesNames
-- Canonical tables
mod ExamplesCanonical
mod ExamplesCanonicalFunctions
mod ExamplesCanonicalRelations
-- Texts, plans, trees and types
mod ExamplesAll
mod ExamplesEdited
mod ExamplesPlans
mod ExamplesPositions
mod ExamplesTrees
mod ExamplesRewriting
mod ExamplesAttributes
mod ExamplesViews
mod ExamplesLarge
mod ExamplesChildren
mod ExamplesCorners
mod ExamplesTypes
mod ExamplesEdges
