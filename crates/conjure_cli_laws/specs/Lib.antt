pub mod Words
pub mod SmallGrammar
pub mod ModelText
-- The class of specifications that these texts are
pub mod SmallSets
-- What is proved
pub mod Laws
