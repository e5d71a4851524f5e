-- What is known of bound names
pub mod KnownNames
-- Parts of trees of one form
pub mod PartForms
