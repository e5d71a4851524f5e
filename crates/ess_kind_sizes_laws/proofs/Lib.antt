pub mod SizesHave
pub mod SetListings
pub mod ViewsBehind
mod ExamplesBehind
