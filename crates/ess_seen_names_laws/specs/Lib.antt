-- What rules make
pub mod Shapes
-- Their laws
pub mod Laws
