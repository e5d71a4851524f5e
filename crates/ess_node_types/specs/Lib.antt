pub mod TypedNames
pub mod StepsTaken
