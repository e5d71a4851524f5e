-- Cells as numbers
pub mod CellForms
pub mod LayerCells
-- Plans with their domains
pub mod PlanDomains
-- A model beside its header
pub mod DeclaresMembers
-- What is said of them
pub mod Laws
