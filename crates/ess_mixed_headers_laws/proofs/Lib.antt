-- The headers
pub mod MixedHeaders
-- The options that were chosen
pub mod ChosenMixed
