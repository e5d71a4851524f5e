-- What is proved
pub mod Laws
