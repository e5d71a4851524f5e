-- Axes
pub mod LayerAxes
-- One child
pub mod OneChild
pub mod SlotTables
-- Up
pub mod LayerUp
pub mod ComponentsUp
-- Down
pub mod LayerDown
pub mod ComponentsDown
pub mod Compounds
-- Steps
pub mod LayerSteps
