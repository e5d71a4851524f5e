-- Tables by name
mod FoundTables
-- One plan
mod PlanValues
-- Several plans
mod AgreedAnswers
mod FindAnswers
-- All finds
mod StoodLoops
