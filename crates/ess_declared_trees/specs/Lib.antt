-- Declared tables as the definitions have them
pub mod TableViews
-- Bounds with a dummy behind them
pub mod Dummies
-- Children by names and domains
pub mod Endings
