-- What it is that two models are one
pub mod SameModels
