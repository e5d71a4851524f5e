-- The law of trees over views
pub mod Laws
