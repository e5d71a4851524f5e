pub mod Ahead
pub mod Applications
pub mod Comprehensions
pub mod Items
pub mod LiteralMarks
pub mod Marks
pub mod Operands
pub mod Paths
