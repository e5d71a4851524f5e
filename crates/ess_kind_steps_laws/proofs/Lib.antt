pub mod SizesMet
pub mod ToldAtoms
pub mod JudgedSets
pub mod JudgedItems
pub mod SetsAsked
