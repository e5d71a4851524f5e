-- What the contracts of evaluation say beside the definitions of meaning
pub mod Environments
pub mod Items
pub mod Folds
pub mod Operands
pub mod ClosedDomains
pub mod Stops
pub mod Flags
