-- Sizes as expressions
pub mod SizeTerms
-- Children and declared tables
pub mod ChildDomains
pub mod DeclaredTrees
-- What is proved
pub mod Laws
