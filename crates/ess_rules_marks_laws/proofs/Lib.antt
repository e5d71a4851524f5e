pub mod DecidedOps
pub mod Grows
pub mod MarksOfFolds
pub mod MarksOfMembers
pub mod MarksOfRules
