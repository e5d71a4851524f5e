-- What is asked of the front of a text
pub mod FrontTokens
