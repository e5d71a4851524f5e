-- What more rules count on follows from values and types
pub mod MoreCounted
