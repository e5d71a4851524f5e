-- Conditions by parts of trees
pub mod ConditionForms
