-- What numbers and names have
pub mod Has
pub mod SaidOfTrees
-- Sizes
pub mod SizeTerms
-- What rules make: its numbers and names, and scopes
pub mod ConditionsHave
pub mod ShapesHave
pub mod PutScoped
pub mod NewNames
pub mod ViewsScoped
pub mod OffersScoped
pub mod ConditionsScoped
pub mod ShapesScoped
-- Parts
pub mod AtParts
pub mod NamesBelow
-- Which rule makes what
pub mod SetsOffer
pub mod SeenForms
pub mod PlainShapes
pub mod ShapesMade
pub mod Kept
-- Worked examples
mod ExamplesShapes
mod ExamplesSets
