pub mod MarksPut
pub mod MarksOfListed
pub mod MarksOfTerms
pub mod MarksOfNames
pub mod MarksOfComponents
pub mod MarksOfOthers
pub mod EverywhereMarked
pub mod MarksOfConditions
