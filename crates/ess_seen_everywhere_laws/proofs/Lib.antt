pub mod Stays
pub mod Figures
pub mod Operands
pub mod ValuedOperators
pub mod FineParts
pub mod FilledTrees
pub mod SameEverywhere
pub mod SeenNumbers
mod ExamplesFilled
