pub mod MatricesKeepValues
