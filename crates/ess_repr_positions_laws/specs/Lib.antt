-- Types put back where the value is of the domain's form
pub mod TypedParts
-- What is said of them
pub mod Laws
