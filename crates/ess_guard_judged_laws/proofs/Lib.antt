-- What is asked of parts
mod TypedTogether
-- Nodes
mod TruthTypes
mod NodeTypes
-- Whole trees
mod JudgedTypes
-- Statements
mod JudgedStatements
mod JudgedGuards
-- Worked examples
mod Examples
