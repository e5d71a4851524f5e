pub mod Entering
pub mod Fresh
pub mod Judging
pub mod Progress
pub mod Refusals
pub mod ValueNames
pub mod Verdicts
