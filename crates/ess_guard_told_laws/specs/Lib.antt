-- Truth values that are told
pub mod TruthsTold
-- What is proved
pub mod Laws
