pub mod ExamplesForms
pub mod FormLemmas
