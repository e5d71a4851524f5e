pub mod TypedValues
pub mod MoreCounted
