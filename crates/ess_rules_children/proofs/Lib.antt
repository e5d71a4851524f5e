-- Values that are kept as another value, by the parts of the view
mod KeptForms
-- What operators on them ask
mod AskedForms
-- How many tables a representation has
mod WidthSums
-- Components, by the parts of the term
mod ComponentForms
-- Worked examples
mod Examples
