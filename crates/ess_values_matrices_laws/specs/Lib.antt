-- Equal matrices keep values
pub mod MatricesKeepValues
