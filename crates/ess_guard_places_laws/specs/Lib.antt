-- Trees that are total but for plain operators and tests
pub mod TotalInPlaces
-- What is proved
pub mod Laws
