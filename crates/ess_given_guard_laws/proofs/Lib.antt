pub mod FixedInScope
pub mod OwnConditions
pub mod BuildsFixed
pub mod GuardFixed
pub mod OrderScoped
pub mod BuildsGiven
pub mod GuardGiven
pub mod GuardKeepsGiven
