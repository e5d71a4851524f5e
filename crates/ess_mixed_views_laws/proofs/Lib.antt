-- The plans of nested finds by name
pub mod NestedNames
-- Sizes of declared axes
pub mod AxisSizes
-- Tables that keep nested sets
pub mod KeptTables
-- Members and domains of nested sets
pub mod PlainMembers
-- Values of views
pub mod ViewValues
-- Numbers of views
pub mod ViewNumbers
-- Cells at slots of declared axes
pub mod FilledAxes
