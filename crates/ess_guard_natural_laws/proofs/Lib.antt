-- Nodes in natural places and out of them
mod Places
mod Behind
-- Operators
mod ConditionRows
mod Axes
mod OwnTotals
mod PlainOperators
-- Whole trees
mod Totals
-- Worked examples
mod ExamplesPlaces
