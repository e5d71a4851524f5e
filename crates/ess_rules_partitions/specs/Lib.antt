-- The forms of trees that the rules ask for
pub mod Asked
-- Views of partitions by their parts, and what the code's parts stand for
pub mod NumberedViews
pub mod CodeNumbered
