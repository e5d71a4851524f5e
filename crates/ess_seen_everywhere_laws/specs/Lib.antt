-- The law
pub mod Laws
