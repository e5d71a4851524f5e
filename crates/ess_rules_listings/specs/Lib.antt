-- What terms offer, part by part
pub mod ListedTerms
pub mod Marks
-- What sources offer
pub mod Offered
