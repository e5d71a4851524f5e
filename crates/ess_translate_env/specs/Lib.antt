-- What stands behind statements of the code
pub mod Behind
