-- Views of finds
pub mod Finds
