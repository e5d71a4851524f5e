-- What is asked of records
pub mod Fields
-- What is proved
pub mod Laws
