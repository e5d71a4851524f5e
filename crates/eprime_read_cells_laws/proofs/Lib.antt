pub mod Complete
pub mod LettingTexts
pub mod Sound
pub mod Stops
mod ExamplesCells
