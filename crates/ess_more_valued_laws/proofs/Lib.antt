pub mod MoreChains
