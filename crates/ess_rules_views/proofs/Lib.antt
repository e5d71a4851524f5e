pub mod ExamplesLookups
pub mod ExamplesPicked
pub mod ExamplesViewForms
pub mod KeyLemmas
pub mod LookupParts
pub mod PartLemmas
pub mod PickedParts
pub mod ViewParts
