-- Representations that are chosen, as options
pub mod ChosenFlat
-- Headers
pub mod FlatHeaders
-- Worked example
mod Examples
pub mod ExampleText
