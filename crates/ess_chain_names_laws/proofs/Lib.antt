-- What callers name of libraries below
pub use Rattle.conjure_model_laws.proofs as conjure_model_laws
pub mod NamesHave
pub mod NamesOfFolds
pub mod NamesOfContainers
pub mod NamesOfListings
pub mod RulesKeepNames
pub mod ToldNames
pub mod SparedNames
mod ExamplesCaptures
mod Examples
