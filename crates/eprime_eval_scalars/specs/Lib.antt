-- What the contracts of this crate say beside the definitions of operators, tables and domains
pub mod ScalarViews
pub mod Folds
pub mod Grids
pub mod Runs
