-- What the judgements say of a domain
pub mod DomainNumbers
pub mod OrderlyDomains
-- Numbers under their conditions
pub mod TotalNumbers
-- Names in index lists
pub mod FreeIndices
-- What is proved
pub mod Laws
