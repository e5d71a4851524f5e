mod ExamplesTexts
mod ExamplesSpelled
pub mod Digits
pub mod NameRuns
pub mod SymbolEnds
pub mod TokensBack
pub mod LexedPieces
pub mod NamesBack
pub mod Representations
pub mod Derived
pub mod Literals
pub mod Nodes
pub mod Patterns
pub mod Generators
pub mod Domains
pub mod Expressions
pub mod Statements
pub mod Lettings
pub mod Appended
pub mod Closing
pub mod SafeParts
pub mod SafeNodes
pub mod SafeTrees
pub mod Prints
pub mod ValueTexts
pub mod SpelledReadable
