pub mod CountedValues
