-- What is known of plans
pub mod PlanFacts
-- Laws
pub mod Laws
