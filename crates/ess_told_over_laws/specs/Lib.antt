pub mod ToldOverTables
