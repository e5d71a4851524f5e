-- Which trees are expressions of models
pub mod Lowerable
-- What a refined tree needs to be one
pub mod Formed
-- Laws
pub mod Laws
