-- What rules of parts of views have at hand
pub mod PartsAtHand
-- What rules of views of relations and functions have at hand
pub mod TuplesAtHand
-- What rules of truth values in views have at hand
pub mod TruthsAtHand
-- What folds over views have at hand
pub mod FoldsAtHand
-- Names of what views offer
pub mod OffersApart
