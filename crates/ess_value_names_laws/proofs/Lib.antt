-- Names of values
pub mod UnnamedNames
pub mod OwnNames
pub mod GivenTypes
pub mod SmallSizes
-- Statement by statement
pub mod TypesInScope
pub mod NewTypes
pub mod PlacedNames
