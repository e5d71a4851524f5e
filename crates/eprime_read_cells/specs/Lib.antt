pub mod CellAnswers
