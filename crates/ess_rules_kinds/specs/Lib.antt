-- Views by their parts, and what the code's parts and answers stand for
pub mod ViewParts
pub mod CodeParts
-- Each member of a multiset once
pub mod OnceParts
