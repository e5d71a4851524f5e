-- Numbers of cells, run by run
pub mod Runs
-- What is said of them
pub mod Laws
