-- What stands below a layer with one child
pub mod Inner
-- What stands below a layer, as the definitions have it
pub mod InnerViews
-- Attributes with a number, as far as the number is there
pub mod Sized
