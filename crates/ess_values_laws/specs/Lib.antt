pub mod ItemNames
pub mod Spellable
pub mod Laws
