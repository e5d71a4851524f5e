-- What is known around a place, as code keeps it
pub mod Views
-- Generators one by one
pub mod Steps
