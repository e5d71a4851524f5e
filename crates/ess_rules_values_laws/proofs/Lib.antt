pub mod ValuedAgreement
pub mod ValuedForms
pub mod FoldsKeepValues
pub mod ComparisonsKeepValues
pub mod RulesKeepValues
