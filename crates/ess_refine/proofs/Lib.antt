-- Chains one after the other, and inside of trees
pub mod Chains
-- Passes over the parts of trees, and over the items of rows
pub mod Parts
pub mod Rows
-- What nodes stand for, and what a pass makes of them
pub mod NodeForms
pub mod NodeTurns
pub mod DomainTurns
-- Trees whose parts are settled
pub mod SettledForms
pub mod SettledNodes
pub mod SettledRows
-- Why there are no more passes
pub mod Endings
