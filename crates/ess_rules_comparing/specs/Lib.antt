-- Fields of types
pub mod FieldViews
-- What rules of matrices build
pub mod RuleParts
