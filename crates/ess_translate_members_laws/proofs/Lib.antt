pub mod PlainLayers
pub mod PlainDeclarations
pub mod RunsOnce
pub mod SideTables
pub mod LayerCells
mod ExamplesMembers
