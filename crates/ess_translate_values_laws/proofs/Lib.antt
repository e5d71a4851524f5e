-- Tables as declared
pub mod ReadyFinds
-- Forms
pub mod ReadyForms
-- The value by several plans
pub mod CommonValues
mod ExamplesCommon
