pub mod SetChains
