-- Lemmas on the definitions
pub mod Truths
pub mod Alike
pub mod Fixed
pub mod Operands
pub mod Gathering
pub mod Answered
pub mod Layers
pub mod DomainLayers
pub mod Verdicts
pub mod Accumulated
pub mod Reached
