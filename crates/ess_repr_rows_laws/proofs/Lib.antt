-- Tables that are stacked
pub mod Blocks
pub mod Stacked
-- Slots in order
pub mod RowOrder
pub mod SlotsInOrder
-- Tables that are cut apart
pub mod CutTables
pub mod UsedSlots
-- One layer
pub mod LayerDownRows
pub mod LayerUpRows
-- Kind by kind
pub mod SlotLayers
pub mod ArgumentLayers
pub mod OwnCells
pub mod LayerValues
pub mod OwnLayers
-- Worked examples
pub mod ExamplesRows
