pub mod Renamed
pub mod NewNames
pub mod ToldMeanings
pub mod ToldScopes
pub mod ToldMeets
mod ExamplesTold
