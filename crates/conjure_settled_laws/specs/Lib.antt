-- What names have behind all statements
pub mod EndValues
-- Laws
pub mod Laws
