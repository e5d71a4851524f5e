pub mod Simplifying
pub mod SimplerRoots
pub mod Laws
pub mod TruthsThere
