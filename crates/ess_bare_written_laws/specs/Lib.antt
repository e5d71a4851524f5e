-- What is promised
pub mod Laws
