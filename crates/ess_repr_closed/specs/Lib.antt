-- Axes of tuples
pub mod ComponentAxes
