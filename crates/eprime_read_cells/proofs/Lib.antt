pub mod CellLaws
pub mod AllAnswers
