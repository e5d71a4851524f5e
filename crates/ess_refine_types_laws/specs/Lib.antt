pub mod TypeNames
pub mod TypesOfContainers
pub mod MarksOfTyped
pub mod MarksOfJudged
pub mod MarksOfContainers
pub mod TypesOfListed
