pub mod LanguageTokens
pub mod Statements
pub mod Choices
pub mod HeadLines
pub mod Reading
pub mod WholeHeaders
pub mod OneHeader
pub mod ModelHeaders
pub mod WrittenLines
mod UnseenObjectives
pub mod HeadersTyped
mod ExamplesHeaders
