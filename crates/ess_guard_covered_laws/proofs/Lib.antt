-- What types say of truth values
mod TruthTypes
mod OperandTypes
-- Whole trees
mod MarkedTrees
mod FormsNeeded
-- Worked examples
mod Examples
