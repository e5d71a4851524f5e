-- Down: slots in order, tables stacked
pub mod SlotOrder
pub mod Stacking
-- Up: tables cut apart
pub mod Cutting
-- Kind by kind
pub mod RowLayers
