pub mod PlainTokens
pub mod OwnTokens
pub mod Growing
pub mod PartRuns
pub mod Complete
pub mod Sound
pub mod LanguageLine
pub mod Tails
pub mod Stops
mod ExamplesModels
