-- What picks a value, by the steps and the operands
mod PickedForms
-- As many names as domains
mod NameRuns
-- An index of several steps
mod PathForms
-- Worked examples
mod ExamplesPicked
