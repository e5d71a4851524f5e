-- What callers name of libraries below
pub use Rattle.ess_refine.specs.ess_rules as ess_rules
pub use Rattle.ess_refine.specs as ess_refine
-- What is written for a tree
pub mod Written
