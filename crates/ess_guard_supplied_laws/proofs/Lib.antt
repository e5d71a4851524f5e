-- Whole trees
mod SuppliedTrees
-- Worked examples
mod Examples
