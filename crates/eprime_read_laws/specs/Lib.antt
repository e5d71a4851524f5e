pub mod ModelMachine
pub mod Laws
