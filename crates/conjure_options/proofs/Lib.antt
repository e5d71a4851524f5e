mod Examples
mod ExamplesItems
pub mod Cuts
pub mod Fillings
pub mod Injective
pub mod Reprs
pub mod DifferLaws
pub mod ItemLaws
pub mod ListLaws
pub mod OptionsFit
pub mod ChosenLaws
