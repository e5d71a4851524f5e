-- What is answered on the text of a model with its header, and on that of a parameter
pub mod ModelFiles
pub mod GivenFiles
-- What the answers on files are to each other
pub mod Wholes
-- The refusals of the parts
pub mod Refusals
