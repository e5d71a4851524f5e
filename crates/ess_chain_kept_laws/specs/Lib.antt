pub mod CountsBeside
pub mod KeptChains
