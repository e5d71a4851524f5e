-- What rules of counted sources ask so as to keep types and marks
pub mod NumberedTyped
