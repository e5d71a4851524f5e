pub mod PlaceLaws
pub mod Lexing
pub mod OneLine
pub mod SymbolRuns
pub mod Runs
pub mod ByFirstByte
pub mod Longest
mod TokenExamples
mod PlaceExamples
mod LoadExamples
pub mod RecordFields
pub mod NameTokens
pub mod FittingOperands
pub mod ReadableTrees
pub mod ReadableStatements
pub mod ExamplesGrammar
pub mod ExamplesStatements
pub mod FirstTokens
mod ExamplesRefused
mod ExamplesTexts
pub mod ProperTokens
pub mod LettingsFiles
