-- What a kind has over a domain
pub mod LayerParts
-- Components of tuples and records
pub mod Components
-- What calls of one layer ask
pub mod LayerCalls
