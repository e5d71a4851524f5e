pub mod Parts
pub mod ValuedChains
