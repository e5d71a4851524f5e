pub mod PuttingItems
pub mod AxesCome
pub mod Fitting
pub mod TableAnswers
