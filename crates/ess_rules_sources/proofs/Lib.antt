-- Rules by the parts of a root
pub mod SourceForms
pub mod OnceForms
-- Rows one by one
pub mod ExtremeRows
-- Worked examples
pub mod ExamplesOnce
