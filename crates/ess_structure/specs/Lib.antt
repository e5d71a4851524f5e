-- Constraints one behind the other
pub mod Together
