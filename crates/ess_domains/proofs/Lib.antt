-- Lemmas on what an assignment gives, and on what the lettings before a letting have named
pub mod Givens
pub mod Earlier
pub mod UnnamedNames
pub mod DeclaredNames
pub mod PreparedNames
-- Walks over statements
pub mod Walks
pub mod StatementFaults
pub mod Told
