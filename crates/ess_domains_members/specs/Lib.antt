-- What the contracts of this crate say beside the definitions of the meaning
pub mod Leaves
pub mod Forms
