-- What the rules of kinds without listings ask so as to keep types and marks
pub mod KindsTyped
-- And folds over views
pub mod FoldsTyped
-- And rules of what is picked
pub mod PicksTyped
