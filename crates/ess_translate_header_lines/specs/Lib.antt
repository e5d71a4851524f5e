-- The tokens of the language line
pub mod LanguageParts
-- What the code's lines stand for
pub mod Views
