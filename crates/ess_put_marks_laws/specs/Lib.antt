pub mod MarksOfTerms
pub mod MarksOfOthers
pub mod MarksOfConditions
