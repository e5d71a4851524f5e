pub mod FirstRefusals
pub mod Runs
pub mod Clauses
mod KindSearch
mod RepresentationSteps
mod RepresentationLaws
pub mod NamedRepresentationLaws
pub mod StateLaws
mod LettingsLaws
pub mod ReadableAnswers
pub mod Narrowing
pub mod AsciiTokens
pub mod Turns
mod LettingStatements
mod ExamplesReaders
