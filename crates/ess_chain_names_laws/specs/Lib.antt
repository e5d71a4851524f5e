-- What callers name of libraries below
pub use Rattle.conjure_model_laws.specs as conjure_model_laws
pub mod NamesHave
pub mod RulesKeepNames
pub mod Steps
pub mod SparedNames
