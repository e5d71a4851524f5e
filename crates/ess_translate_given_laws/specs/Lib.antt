-- What headers have beyond the judgements
pub mod Ready
-- One plan after the other
pub mod ByPlans
pub mod Counts
-- Tables in 64 bits
pub mod Printable
-- Laws
pub mod Laws
