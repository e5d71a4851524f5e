-- Views offer their members
pub mod ViewsListed
-- Which terms have the type of matrices
pub mod MatrixTypes
-- Results of functions, images and parts are looked up
pub mod ResultsLookedUp
-- Picks are looked up
pub mod PicksLookedUp
-- Worked examples
mod ExamplesOffered
