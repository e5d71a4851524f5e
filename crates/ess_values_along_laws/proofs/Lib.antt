pub mod ValuedSteps
pub mod ValuesAlong
mod ExamplesValued
