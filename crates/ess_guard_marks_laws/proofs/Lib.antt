-- Marks, and types that are no truth values
mod FullMarks
mod NoBooleans
-- Conditions
mod FullConditions
mod FullIndices
-- Whole trees
mod TypedPlaces
mod MarksStay
mod MarkLaws
-- Worked examples
mod Examples
