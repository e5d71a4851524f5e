pub mod FirstTokens
