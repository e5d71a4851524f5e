pub mod ChildrenMet
pub mod KnownChildren
pub mod ComponentsFit
pub mod PartsAsked
pub mod JudgedTuples
pub mod ArgumentListings
pub mod ToldTuples
pub mod TuplesAsked
pub mod IndicesHeld
pub mod ArgumentsHeld
pub mod TruthsAsked
pub mod FoldsAsked
pub mod OfferedNames
pub mod OffersApart
mod ExamplesAtHand
