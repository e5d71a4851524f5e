-- Trees that are total but for tests
pub mod TotalButTests
-- Trees whose forms are known
pub mod FormsKnown
-- What is proved
pub mod Laws
