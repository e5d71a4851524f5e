pub mod TypesBehind
pub mod StepsTyped
pub mod FoldsTyped
pub mod PlainListsTyped
pub mod OperandsTyped
pub mod PicksTyped
pub mod OpenedTyped
pub mod LeastTyped
pub mod PatternsTyped
pub mod InOrderTyped
pub mod OpeningsKeep
mod ExamplesTyped
