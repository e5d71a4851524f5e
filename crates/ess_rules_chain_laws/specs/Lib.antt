pub mod MarkedChains
