-- Sizes by plans
pub mod Sizes
-- Views by plans
pub mod ViewLaws
-- Scalars by plans
pub mod ScalarLaws
-- Behind givens and finds
pub mod StatementLaws
-- Worked examples
pub mod Examples
