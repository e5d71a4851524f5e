-- What types say of truth values
mod TruthTypes
-- Whole trees
mod MarkedTrees
mod JudgedGuards
-- Worked examples
mod Examples
