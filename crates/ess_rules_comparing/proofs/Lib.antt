pub mod ExamplesRuleParts
pub mod FieldLemmas
pub mod MatrixLemmas
pub mod PairRules
