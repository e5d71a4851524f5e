-- The law of trees of a membership
pub mod Laws
