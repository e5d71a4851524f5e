pub mod ClosedEquations
pub mod RangeNumbers
pub mod ListProducts
pub mod Listed
