-- Texts
pub mod LettingTexts
-- Laws
pub mod Laws
