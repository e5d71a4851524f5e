pub mod UsedNames
pub mod KnownIndices
pub mod KnownNames
pub mod ScopesGrow
pub mod LaterEnvs
pub mod GivenNames
pub mod FixedParts
pub mod StaysLater
pub mod JudgedStatements
pub mod SettledStatements
pub mod EndValues
pub mod NamesInUse
mod ExamplesSettled
