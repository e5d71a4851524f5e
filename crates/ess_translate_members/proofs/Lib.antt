pub mod PlansInOrder
pub mod DeclaredSides
