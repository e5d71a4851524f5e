pub mod RenewedRules
pub mod RenewedChains
mod ExamplesRenewed
