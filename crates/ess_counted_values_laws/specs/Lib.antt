-- What rules count on follows from values
pub mod CountedValues
