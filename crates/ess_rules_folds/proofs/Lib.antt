-- Rules by the parts of a root
pub mod FoldForms
-- Rows one by one
pub mod FoldRows
-- Worked examples
pub mod ExamplesParts
