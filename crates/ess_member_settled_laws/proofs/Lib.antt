-- Folds over the domain are refined
pub mod Folds
-- Settled trees
pub mod Settled
