-- What rules of counted sources ask so as to keep scopes
pub mod NumberedScopes
