-- Terms at one index
pub mod Indexed
