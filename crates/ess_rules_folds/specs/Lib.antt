-- The forms that rules rewrite, and the parts of these
pub mod Forms
-- What the rules make of the parts
pub mod FoldParts
