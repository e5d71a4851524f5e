-- Models whose parts are trees of the grammar
pub mod SpelledModels
-- The laws
pub mod Laws
