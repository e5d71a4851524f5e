-- Tables are full for structures, by kinds
mod FullParts
mod FullCells
mod FullSlots
mod FullCounts
mod FullSeen
mod FullKinds
mod FullSets
mod FullFunctions
mod FullTuples
mod FullLayers
mod FullAll
-- Other values of names
mod FullFree
-- Index lists
mod QuietStructures
-- Views
mod FullViews
-- Worked examples
mod ExamplesFull
