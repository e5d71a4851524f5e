-- What callers name of libraries below
pub use Rattle.ess_model_trees.specs.ess_rules as ess_rules
pub use Rattle.ess_model_finds.specs as ess_model_finds
pub use Rattle.ess_model_trees.specs.ess_refine as ess_refine
pub use Rattle.ess_model_trees.specs as ess_model_trees
-- Bounds as they are printed
pub mod Bounds
-- What is written for domains and for a table
pub mod DeclarationsWritten
-- What is written for tables one after the other
pub mod Coming
-- What comes of several things in order
pub mod Answered
-- What comes of the parts of a specification
pub mod RulesWritten
-- What stands in a statement
pub mod Statements
-- The objective that the code answers
pub mod Objectives
