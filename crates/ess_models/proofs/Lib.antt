-- The representations of a header
pub mod Chosen
-- Trees over tables by what is there for names
pub mod SameTrees
-- What stands behind statements
pub mod Behind
-- Names of tables
pub mod Taking
-- The statements of a header
pub mod Heads
-- What comes of the parts, by what is there for names
pub mod SameParts
-- The declarations
pub mod Declaring
-- The rules
pub mod Ruling
-- The whole model of its parts
pub mod WholeParts
-- Whether representations fit
pub mod Fitting
-- The model of the definitions
pub mod Modelling
-- Each attribute of a domain's tree has its number
pub mod Numbered
-- Plans
pub mod Planning
-- Its text
pub mod Spelling
-- A worked example
pub mod ExamplesBuilt
