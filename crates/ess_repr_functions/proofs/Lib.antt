-- One layer on rows is the layer of cells
pub mod FunctionArguments
pub mod FunctionPicks
pub mod FunctionLaws
-- The same over closed domains
pub mod FunctionLayers
-- Worked examples
pub mod ExamplesFunctions
-- Lemmas on loops
pub mod ArgumentLoops
pub mod PairsOfValues
