pub mod KindedViews
pub mod KindedLists
pub mod BoundNames
pub mod Shapes
pub mod Places
pub mod Standing
pub mod Kinding
