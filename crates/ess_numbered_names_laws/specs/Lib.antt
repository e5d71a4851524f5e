-- The names of what rules of counted sources make
pub mod NumberedNames
