-- Generators over axes one by one
pub mod RowItems
-- Tables of views
pub mod ShapeViews
