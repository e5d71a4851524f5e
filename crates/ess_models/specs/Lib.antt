-- What callers name of libraries below
pub use Rattle.ess_model_written.specs.ess_model_finds as ess_model_finds
pub use Rattle.ess_model_written.specs as ess_model_written
pub use Rattle.ess_model_written.specs.ess_rules as ess_rules
pub use Rattle.ess_model_written.specs.ess_refine as ess_refine
pub use Rattle.ess_model_written.specs.ess_model_trees as ess_model_trees
-- What a specification and its representations are
pub mod Checked
-- The parts of a model
pub mod Parts
-- What a model is made of
pub mod Built
-- What comes of its parts
pub mod Coming
-- What is answered
pub mod Modelled
