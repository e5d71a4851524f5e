pub mod AlikeListings
pub mod AlikeMade
