pub mod ListLaws
pub mod FrameLaws
pub mod TokenLaws
pub mod OtherTokens
pub mod Bound
