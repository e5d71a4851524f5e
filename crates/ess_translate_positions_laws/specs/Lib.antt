-- Values of the form of their domain
pub mod Forms
-- What is said of them
pub mod Laws
