-- Headers of models
pub mod Headers
-- Their lines one by one
pub mod LanguageLines
pub mod HeadLines
pub mod Reading
-- The lines that are written
pub mod WrittenLines
-- What is said of them
pub mod Laws
