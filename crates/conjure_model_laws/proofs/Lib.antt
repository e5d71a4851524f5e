mod Renames
mod Counted
mod ToldMeanings
pub mod ToldLaws
mod ExamplesTold
mod PrintedNames
mod SingleNames
mod PrintedMeanings
pub mod PrintedLaws
mod ExamplesPrinted
mod ShownMeanings
mod ShownMeets
pub mod ShownLaws
mod ExamplesShown
mod ToldNames
pub mod WrittenLaws
pub mod WrittenDomains
pub mod ViewValues
mod Directions
pub mod Built
pub mod Examples
pub mod ExamplesBuilt
mod ExamplesDomains
