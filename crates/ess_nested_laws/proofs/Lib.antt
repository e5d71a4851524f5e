-- Forms of domains and representations
pub mod NestedForms
-- What the domains denote
pub mod NestedDenoted
