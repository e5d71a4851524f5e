-- The env behind statements
pub mod WholeEnvs
-- Domains of plans
pub mod PlanRows
