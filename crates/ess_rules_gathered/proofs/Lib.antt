-- Generators and their conditions, one by one
pub mod ConditionRows
-- Worked examples
mod ExamplesConjunctions
