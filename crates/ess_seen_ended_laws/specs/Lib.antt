-- The law of refined trees over views
pub mod Laws
