-- The law
pub mod AlikeModels
