pub mod DeclaredNames
pub mod Numbers
pub mod Sweeping
