-- Names with `_` behind
pub mod LongerNames
-- Trees of models
pub mod SpelledTrees
-- Statements with lettings put in
pub mod PreparedTokens
-- Declarations
pub mod SpelledDeclarations
pub mod BoundedPlans
-- The law
pub mod ReadableModels
-- Worked examples
mod Examples
