mod ExamplesForms
pub mod ListedForms
pub mod BuiltForms
pub mod ConvertedForms
pub mod StoodForms
