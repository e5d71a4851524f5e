pub mod Refusals
pub mod Readers
pub mod Runs
pub mod Machines
pub mod RepresentationViews
pub mod NamedRepresentations
pub mod NamedReprViews
pub mod LettingViews
