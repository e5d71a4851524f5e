pub mod SetLists
