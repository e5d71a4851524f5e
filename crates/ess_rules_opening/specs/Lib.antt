-- What the code takes apart
pub mod OpenedViews
-- Generators over domains
pub mod OverDomains
