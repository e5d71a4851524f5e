-- Generators under their conditions, one by one
pub mod Steps
-- What is asked before generators, as code keeps it
pub mod StepViews
