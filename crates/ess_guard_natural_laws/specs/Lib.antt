-- Total but for plain operators in natural places
pub mod TotalButNatural
-- What is proved
pub mod Laws
