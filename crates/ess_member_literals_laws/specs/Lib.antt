-- Which domains have literals
pub mod ToldDomains
-- Laws
pub mod Laws
