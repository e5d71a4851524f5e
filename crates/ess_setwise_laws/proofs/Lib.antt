-- What callers name of libraries below
pub use Rattle.ess_seen_laws.proofs as ess_seen_laws
-- Trees of the class, and what is tested
pub mod SetwiseTrees
pub mod OperatorKinds
pub mod Tested
-- Over tables
pub mod ShownForms
pub mod NameKinds
pub mod Spellings
pub mod ToldSets
pub mod ToldSetwise
pub mod ToldCounted
pub mod ToldMeans
-- Total, over views, in scope, of values
pub mod GuardLists
pub mod GuardedNodes
pub mod SetwiseGuard
pub mod SetwiseSeen
pub mod SetwiseMet
pub mod ItemValues
pub mod OperatorValues
pub mod SetwiseValues
-- What is promised
pub mod SetwiseLaws
-- Worked examples
pub mod Examples
pub mod ExamplesRanges
pub mod ExamplesShown
