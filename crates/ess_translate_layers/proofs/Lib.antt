-- Lists
pub mod Found
-- One layer
mod LayerAnswers
mod FamilyAnswers
-- Kinds and slots
mod Widths
mod SlotSteps
-- Tuples and records
mod CompoundValues
mod ComponentRows
mod ComponentLoops
-- Down
mod DownLoops
mod DownSteps
mod DownCalls
-- Up
mod UpLoops
mod UpSteps
mod UpCalls
