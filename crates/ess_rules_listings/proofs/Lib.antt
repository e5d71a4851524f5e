-- Rules by the parts of a root
pub mod TermForms
pub mod MadeForms
-- Items one by one
pub mod ItemRows
-- What sources offer, by a supply of names
pub mod Supplies
-- Worked examples
pub mod ExamplesOffered
