pub mod SizesTyped
pub mod ListingsTyped
pub mod SetsKeepTypes
pub mod SetsKeepMarks
pub mod SetChainsTyped
mod ExamplesTyped
