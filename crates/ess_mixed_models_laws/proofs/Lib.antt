-- What callers name of libraries below
pub use Rattle.ess_setwise_laws.proofs as ess_setwise_laws
pub use Rattle.ess_setwise_laws.proofs.ess_seen_laws as ess_seen_laws
-- Values of what is written for memberships
pub mod MemberTests
pub mod MemberKinds
pub mod MemberValues
-- Named types and members of sets
pub mod NamedKinds
-- Names
pub mod DeclaredNames
-- Plans
pub mod NestedPlans
pub mod MixedPlans
pub mod FoundPlans
-- Declared tables
pub mod MixedCells
pub mod ScalarCells
pub mod MixedSizes
-- Givens
pub mod MixedGivens
-- What the layers deliver but for rules
pub mod MixedLayers
-- Values
pub mod ScalarValues
pub mod SetFinds
pub mod SetValues
-- The objective
pub mod SingleObjective
pub mod MixedGoals
-- Texts
pub mod PreparedSets
pub mod MixedConstants
pub mod NestedSpelled
pub mod MixedSpelled
pub mod MixedForms
pub mod MixedPlaces
pub mod NestedSmall
pub mod MixedSmall
-- The law
pub mod MixedHave
pub mod ClassesMixed
-- Worked examples
mod Examples
mod ExamplesObjectives
