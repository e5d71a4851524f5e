pub mod RenewedApart
