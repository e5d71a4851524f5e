-- What callers name of libraries below
pub use Rattle.ess_translate.specs as ess_translate
pub use Rattle.ess_models.specs.ess_model_finds as ess_model_finds
pub use Rattle.ess_models.specs.ess_model_written as ess_model_written
pub use Rattle.ess_models.specs.ess_rules as ess_rules
pub use Rattle.ess_models.specs.ess_refine as ess_refine
pub use Rattle.ess_models.specs.ess_model_trees as ess_model_trees
pub use Rattle.ess_models.specs as ess_models
-- The refusals of parts
pub mod Refusals
-- Names that each have a representation
pub mod Represented
-- What is written for a text, and why nothing is
pub mod Modelled
