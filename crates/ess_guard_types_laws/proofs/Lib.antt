-- Conditions with types
mod TypedConditions
mod TypedNumbers
pub mod JoinedTypes
mod TypedItems
mod TypedLiterals
mod TypedIndices
mod TypedRows
-- Whole trees
mod FormsStay
mod PartsStay
mod TypesStay
-- Worked examples
mod ExamplesTypes
