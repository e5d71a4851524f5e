-- What views of sets become has values
pub mod SetViewsKeepValues
