-- Trees in which each part has a type
pub mod HasTypes
-- What is proved
pub mod Laws
