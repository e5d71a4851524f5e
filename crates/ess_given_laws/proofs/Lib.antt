-- What callers name of libraries below
pub use Rattle.ess_chain_names_laws.proofs.conjure_model_laws as conjure_model_laws
pub use Rattle.ess_chain_names_laws.proofs as ess_chain_names_laws
pub mod PartsHave
pub mod FixedTrees
pub mod PartsOfFolds
pub mod PartsOfContainers
pub mod PartsOfListings
pub mod PartsOfRules
pub mod FixedNumbers
pub mod GivenRules
pub mod GivenStays
pub mod GivenEnds
pub mod MoreNames
mod ExamplesGiven
