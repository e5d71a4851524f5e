pub mod ToldUses
pub mod RenewedApart
mod ExamplesApart
