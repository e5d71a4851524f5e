-- Plans of one name, one behind the other
pub mod NamesInRuns
-- Worked examples
mod ExamplesRuns
