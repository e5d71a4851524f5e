-- What callers name of libraries below
pub use Rattle.ess_bare_laws.proofs.ess_values_bindings_laws as ess_values_bindings_laws
pub use Rattle.ess_bare_laws.proofs.ess_values_sources_laws as ess_values_sources_laws
pub use Rattle.ess_bare_laws.proofs as ess_bare_laws
-- Bound names
pub mod Lookups
-- Domains
pub mod Written
-- Numbers of slots
pub mod Counts
-- More names
pub mod More
-- Types
pub mod Types
-- Names told apart
pub mod Told
-- Members in the place of names
pub mod Puts
-- Free and bound names
pub mod Ends
-- Values of names
pub mod Held
-- Parts
pub mod Carried
pub mod ViewParts
pub mod Slots
pub mod Forms
pub mod Parts
-- Worked examples
pub mod ExamplesSeen
mod ExamplesSums
