-- What callers name of libraries below
pub use Rattle.ess_values_bindings_laws.proofs as ess_values_bindings_laws
pub use Rattle.ess_values_bindings_laws.proofs.ess_values_sources_laws as ess_values_sources_laws
-- Types of bare trees
pub mod Types
-- What operands pick
pub mod Picks
-- Rules at their roots
pub mod PlainRules
pub mod KindRules
pub mod OpenRules
pub mod OrderRules
pub mod NumberRules
pub mod Rulings
pub mod Gathering
-- Their parts
pub mod Slots
pub mod Parts
-- Their values and names
pub mod Scalars
pub mod Refined
-- What is made of them
pub mod Fired
pub mod FiredKeep
pub mod FiredScopes
pub mod FiredNumbers
-- Worked examples
mod ExamplesBare
