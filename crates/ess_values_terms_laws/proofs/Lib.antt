pub mod ValuedForms
pub mod ValuedLists
pub mod ComparedTerms
pub mod TermsKeepValues
mod ExamplesCompound
