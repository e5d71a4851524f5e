-- Texts
pub mod LettingTexts
mod Examples
