pub mod KeptChains
mod ExamplesKept
