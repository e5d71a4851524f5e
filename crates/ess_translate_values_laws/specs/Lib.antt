-- What is asked of plans
pub mod ReadyPlans
-- The value by several plans
pub mod CommonValues
-- Laws
pub mod Laws
