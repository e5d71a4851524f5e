-- What is asked for, one table set after the other
pub mod Requests
-- What is said of it
pub mod Laws
