-- Types put back into values of the domain's form
pub mod TypedForms
-- Forms beside positions
pub mod KeptForms
-- Worked examples
mod ExamplesTyped
