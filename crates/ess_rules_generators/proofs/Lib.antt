-- Rules by the parts of a comprehension
pub mod GeneratorForms
pub mod RecordForms
-- Rows one by one
pub mod GeneratorRows
-- Worked examples
pub mod ExamplesNames
