-- What closed domains stand for
pub mod ClosedViews
pub mod Negatives
pub mod Ranges
pub mod FieldRecords
