-- What the tree reads is there
pub mod Present
-- Applications that are left
pub mod Applications
-- What is proved
pub mod Laws
