pub mod KindedEquations
mod Results
mod BoundNames
mod Places
pub mod DeclaredShapes
mod ShapedCells
mod Joins
mod NodeForms
mod Empties
mod MadeNodes
mod ItemLists
mod Kindings
mod Rows
mod Comprehensions
mod ExamplesKinding
