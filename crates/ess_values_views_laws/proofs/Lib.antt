pub mod SetViewsKeepValues
