-- What rules take, in code
pub mod Supplies
-- What the code takes apart
pub mod OpenedViews
-- Rules by the parts of a root
pub mod WordParts
-- Generators that no table decides
pub mod DecidedItems
-- What a rule of kinds makes of a root
pub mod Kinds
-- The rules of kinds that are asked
pub mod AskedKinds
