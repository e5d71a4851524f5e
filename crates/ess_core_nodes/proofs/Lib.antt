pub mod NodeEquations
