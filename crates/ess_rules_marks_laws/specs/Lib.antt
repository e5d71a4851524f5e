pub mod MarksOfRules
