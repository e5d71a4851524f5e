mod Examples
pub mod Fitting
pub mod NodeTypes
pub mod PartTypes
