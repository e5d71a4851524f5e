pub mod DomainParts
pub mod Lawful
pub mod LawfulParts
pub mod Plugs
pub mod Searches
