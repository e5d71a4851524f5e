-- What callers name of libraries below
pub use Rattle.ess_chain_names_laws.specs.conjure_model_laws as conjure_model_laws
pub use Rattle.ess_chain_names_laws.specs as ess_chain_names_laws
-- Trees each part of which has what is wanted of it
pub mod PartsHave
-- What is given in domains and conditions
pub mod Given
-- What that says where rewriting ends, and that more names may belong to it
pub mod GivenEnds
-- Rules that keep it, at a root, at a part, along chains
pub mod GivenStays
