-- A step at some part of a tree
pub mod PartSteps
-- The trees of a membership
pub mod Memberships
-- Their laws
pub mod Laws
