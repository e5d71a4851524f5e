pub mod Declaring
pub mod NameLemmas
pub mod Naming
pub mod Runs
pub mod ScopeLemmas
pub mod Steps
pub mod ValueNames
pub mod VerdictLemmas
