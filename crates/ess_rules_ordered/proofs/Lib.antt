-- Items by number: by what is picked within, the generators and the domain
pub mod NumberedForms
-- Terms by their indices, and their comprehensions
pub mod IndexedForms
-- Comprehensions over what is picked
pub mod PickedForms
-- The domain that a term follows
pub mod ToldForms
-- Items of written lists case by case, and their number
pub mod CaseForms
pub mod NumberForms
-- Sources that are items
pub mod ItemForms
-- What counts of a supply
pub mod SuppliesAlike
-- Worked examples
mod ExamplesOrdered
mod ExamplesSources
