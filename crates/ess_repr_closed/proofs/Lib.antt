-- Layers and their parts
mod LayerForms
pub mod ChildRows
mod SizedRows
-- Numbers
mod BoundForms
mod AxisForms
-- All axes
mod AllAxes
