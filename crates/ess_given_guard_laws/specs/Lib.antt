-- Trees with conditions
pub mod GuardKeepsGiven
