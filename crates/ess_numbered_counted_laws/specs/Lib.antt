-- What the rules count on beside values
pub mod NumbersCounted
