pub mod RenewedRules
pub mod RenewedChains
