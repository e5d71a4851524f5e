-- Nodes in natural places and as sides of tests
mod Places
mod Behind
-- Operators
mod ConditionRows
mod Axes
mod OwnTotals
mod PlainOperators
-- Whole trees
mod Totals
-- Worked examples
mod Examples
