-- Sides of tests
mod Places
mod Behind
-- Operators
mod ConditionRows
mod Axes
mod OwnTotals
-- Whole trees
mod Totals
mod KnownForms
-- Worked examples
mod Examples
