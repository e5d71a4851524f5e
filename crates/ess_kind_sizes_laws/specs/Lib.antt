-- The rules of views of sets
pub mod SetRules
-- Names of what a view offers, and of what stands behind the view
pub mod ViewsBehind
