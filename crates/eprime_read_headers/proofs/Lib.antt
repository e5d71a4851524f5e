pub mod FreeTexts
pub mod FifthToken
pub mod MarkedLines
