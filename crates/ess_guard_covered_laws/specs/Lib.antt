-- Trees whose forms are told
pub mod FormsTold
-- What is proved
pub mod Laws
