pub mod KeySearch
pub mod AttributeWords
pub mod Domains
pub mod OtherTokens
