-- What callers name of libraries below
pub use Rattle.ess_rules.specs as ess_rules
-- Chains of rules at parts, which count the reserved names that they take
pub mod Chains
-- What passes lead to
pub mod Passes
-- Trees at whose parts no rule fires any more
pub mod Settled
-- What came of refining
pub mod Refinements
